-- The messages of rows: whether one passes a test, and what the first gives.
use Rattle.std.proofs.Common.{◌≡◌, ℕ, suc, ◌+◌, ◌<◌, Bool, true, false, ◌||◌, List, [], ◌∷◌, map, length, get_or, drop, Some, None, Option, sym, refl, ap, ◌∙◌, add-one, drop-cons}
use Rattle.std.specs.List.{list_any, filter_map, cons_option}
use Rattle.std.specs.Option.{option_map}
use lib.Seq.{drop-length}
use Rattle.calendar.specs.Identities.{Identity}
use Rattle.element.specs.Meanings.{or_else}
use Rattle.packets.specs.Amended.{first_for}
use Rattle.substitutions.specs.Kept.{kept_message}
use Rattle.plan.specs.declared.row.Row.{Row as KeptRow}
use Rattle.flights.specs.Counts.{some, bump}
use Rattle.packets.specs.Messages.{Message}
use Rattle.packets.specs.StageTwo.{count}
use Rattle.packets.specs.Verdict.{messages_of}
use Rattle.plan.specs.Rows.{row_of, messages_in, given_for}

some_or : (b : Bool) (n : ℕ) → some (bump b n) ≡ b || some n
some_or true n = refl
some_or false n = refl

-- whether a message of the code's rows passes, in the library's words
pub any_message : (test : Message → Bool) (rows : List KeptRow) → some (count test (messages_of (messages_in (map row_of rows)))) ≡ list_any (λ m. test (kept_message m)) (filter_map (λ r. r.message) rows)
any_message test [] = refl
any_message test (r ∷ rows) = elim r.message as (λ o. some (count test (messages_of (option_map kept_message o ∷ messages_in (map row_of rows)))) ≡ list_any (λ m. test (kept_message m)) (cons_option o (filter_map (λ r. r.message) rows))) [
  | None ↦ any_message test rows
  | Some m ↦ some_or (test (kept_message m)) (count test (messages_of (messages_in (map row_of rows)))) ∙ ap (λ b. test (kept_message m) || b) (any_message test rows)
]

or_else_assoc : {X : Type 0} (a b c : Option X) → or_else (or_else a b) c ≡ or_else a (or_else b c)
or_else_assoc None b c = refl
or_else_assoc (Some x) b c = refl

or_else_none : {X : Type 0} (a : Option X) → or_else a None ≡ a
or_else_none None = refl
or_else_none (Some x) = refl

-- what the first message that names a flight gives, of the rows from a place on
module _ {X : Type 0} (i : Identity) (gives : Message → Option X) where
  first_more : (o : Option Message) (os : List (Option Message)) → first_for i gives (messages_of (o ∷ os)) ≡ or_else (given_for i gives o) (first_for i gives (messages_of os))
  first_more None os = refl
  first_more (Some m) os = refl

  first_at : (rows : List KeptRow) (k : ℕ) (r : KeptRow) → k < length rows → r ≡ get_or rows k r → first_for i gives (messages_of (messages_in (map row_of (drop k rows)))) ≡ or_else (given_for i gives (row_of r).message) (first_for i gives (messages_of (messages_in (map row_of (drop (k + 1) rows)))))
  first_at rows k r h e =
      rw (add-one k)
      (ap (λ (l : List KeptRow). first_for i gives (messages_of (messages_in (map row_of l)))) (drop-cons rows k r h)
      ∙ first_more (row_of (get_or rows k r)).message (messages_in (map row_of (drop (suc k) rows)))
      ∙ ap (λ (y : KeptRow). or_else (given_for i gives (row_of y).message) (first_for i gives (messages_of (messages_in (map row_of (drop (suc k) rows)))))) (sym e))

  -- what the rows before a place give, or else those from it on, is what all give
  pub first_later : (rows : List KeptRow) (k : ℕ) (r : KeptRow) (o o' all : Option X) → k < length rows → r ≡ get_or rows k r → o' ≡ or_else o (given_for i gives (row_of r).message)
      → or_else o (first_for i gives (messages_of (messages_in (map row_of (drop k rows))))) ≡ all → or_else o' (first_for i gives (messages_of (messages_in (map row_of (drop (k + 1) rows))))) ≡ all
  first_later rows k r o o' all h e g inv =
      let rest = first_for i gives (messages_of (messages_in (map row_of (drop (k + 1) rows)))) in
      ap (λ (p : Option X). or_else p rest) g
      ∙ or_else_assoc o (given_for i gives (row_of r).message) rest
      ∙ (ap (λ (p : Option X). or_else o p) (sym (first_at rows k r h e)) ∙ inv)

  pub first_end : (rows : List KeptRow) (k : ℕ) (o all : Option X) → k ≡ length rows → or_else o (first_for i gives (messages_of (messages_in (map row_of (drop k rows))))) ≡ all → o ≡ all
  first_end rows k o all e inv =
      sym (or_else_none o)
      ∙ sym (ap (λ (n : ℕ). or_else o (first_for i gives (messages_of (messages_in (map row_of (drop n rows)))))) e ∙ ap (λ (l : List KeptRow). or_else o (first_for i gives (messages_of (messages_in (map row_of l))))) (drop-length rows))
      ∙ inv
