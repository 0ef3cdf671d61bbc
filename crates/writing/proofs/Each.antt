-- A loop that writes g x for each x of a list.
use Rattle.std.proofs.Common.{◌≡◌, ℕ, ◌+◌, ◌<◌, ◌≤◌, List, [], ◌∷◌, ◌++◌, length, get_or, take, sym, ap, ◌∙◌}
use Rattle.std.specs.List.{flat_map}
use Rattle.std.proofs.lemmas.List.{take_more, take_all, flat_map_more}
use Rattle.writing.specs.declared.writer.Writer.{Writer}
use Rattle.writing.specs.Writers.{Puts}
use Rattle.writing.proofs.Writes.{◌then◌}

module _ {X : Type 0} (g : X → List ℕ) where
  joined_take_more : (xs : List X) (i : ℕ) (x : X) → i < length xs → x ≡ get_or xs i x → flat_map g (take (i + 1) xs) ≡ flat_map g (take i xs) ++ g x
  joined_take_more xs i x h e = ap (λ (l : List X). flat_map g l) (take_more xs i x h ∙ ap (λ (y : X). take i xs ++ y ∷ []) (sym e)) ∙ sym (flat_map_more g [] (take i xs) x)

  pub each_more : {w w' w'' : Writer} (xs : List X) (i : ℕ) (x : X) → i < length xs → x ≡ get_or xs i x → Puts w (flat_map g (take i xs)) w' → Puts w' (g x) w'' → Puts w (flat_map g (take (i + 1) xs)) w''
  each_more xs i x h e p q = rw (joined_take_more xs i x h e) (p then q)

  pub each_all : {w w' : Writer} (xs : List X) (i : ℕ) → length xs ≤ i → Puts w (flat_map g (take i xs)) w' → Puts w (flat_map g xs) w'
  each_all xs i h p = rw (take_all i xs h) at p
