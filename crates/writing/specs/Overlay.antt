-- A buffer with bytes written from a position on.
use Rattle.std.specs.Prelude.{◌≡◌, ℕ, ◌+◌, List, ◌++◌, length, take, drop}

-- the buffer b with the bytes x written from the position `at` on, and the rest as it was
unfoldable pub overlay : List ℕ → ℕ → List ℕ → List ℕ
overlay b at x = take at b ++ (x ++ drop (at + length x) b)

-- of a buffer b, written from `at` on: it is now b', with the bytes x, which end at e
pub record Wrote (b : List ℕ) (at : ℕ) (x b' : List ℕ) (e : ℕ) : Type 0 where
  pub buffer : b' ≡ overlay b at x
  pub end : e ≡ at + length x
