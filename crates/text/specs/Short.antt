-- Short texts.
use Rattle.std.specs.Prelude.{ℕ, cond, List, length, take, Some, None, Option, nat_le}
use Rattle.text.specs.declared.short.ShortText.{ShortText}

-- the bytes of a short text
abbrev pub text_of : {n : ℕ} → ShortText n → List ℕ
text_of t = take t.len t.bytes

-- a text where it has at most n bytes
abbrev pub shortened : ℕ → List ℕ → Option (List ℕ)
shortened n text = cond (nat_le (length text) n) (Some text) None
