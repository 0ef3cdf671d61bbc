-- Tags, read one at a time off the fields.
use Rattle.std.proofs.Common.{◌≡◌, ℕ, List, [], ◌∷◌, Some, None, Option, refl}
use Rattle.messages.specs.Messages.{Said, Tags, tag_read, with_tag, and_then, tags_from}
use Rattle.messages.specs.Kept.{tags_read}

-- the tags of a line with those that are still to come
abbrev pub with_all : Tags → List (Option Said) → Option Tags
with_all a [] = Some a
with_all a (o ∷ os) = and_then (and_then o (with_tag a)) (λ b. with_all b os)

then : (o : Option Tags) (f g : Tags → Option Tags) → ((b : Tags) → f b ≡ g b) → and_then o f ≡ and_then o g
then None f g h = refl
then (Some b) f g h = h b

pub with_all_read : (a : Tags) (fs : List (List ℕ)) → with_all a (tags_read fs) ≡ tags_from a fs
with_all_read a [] = refl
with_all_read a (w ∷ []) = refl
with_all_read a (w ∷ v ∷ rest) = then (and_then (tag_read w v) (with_tag a)) _ _ (λ b. with_all_read b rest)
