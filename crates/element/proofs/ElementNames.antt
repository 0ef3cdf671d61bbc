-- The days and pairs that the code keeps.
use Rattle.std.specs.Prelude.{◌≡◌, ℕ, ◌-◌, ◌≤◌, true, List, length, take, drop}
use Rattle.std.proofs.Common.{sym, ap, ◌∙◌, arith}
use Rattle.std.proofs.lemmas.Bool.{and_from, le-leb}
use Rattle.calendar.specs.declared.days.Days.{Days as KeptDays}
use Rattle.std.proofs.lemmas.Slice.{between_to_end}
use Rattle.std.specs.Str.{bytes_eq}
use Rattle.calendar.specs.Days.{Days, is_days, days_of}
use Rattle.element.specs.declared.slot.Slot.{Slot as KeptSlot}
use Rattle.element.specs.Pointed.{suffix_read, pointed_read}
use Rattle.element.specs.Kept.{slot_of}
use Rattle.element.specs.Slots.{is_pair}

pub kept_days : (d : KeptDays) → is_days (days_of d) ≡ true
kept_days d =
    and_from _ _ (and_from _ _ (and_from _ _ (le-leb 28 d.month d.least) (le-leb d.month 31 d.most)) (le-leb 1 d.base d.from)) (le-leb d.base d.month d.within)

pub kept_pair : (s : KeptSlot) → is_pair (slot_of s) ≡ true
kept_pair s = and_from _ _ (le-leb s.minute.value 10079 (omega (arith, s.minute.week))) (and_from _ _ (le-leb 65 s.letter s.least) (le-leb s.letter 90 s.most))

-- the name stands in front, and the rest is what follows it
pub reads_front : (name : List ℕ) (d : Days) (t : List ℕ) → length name ≤ length t → bytes_eq (take (length name) t) name ≡ true → suffix_read d (take (length t - length name) (drop (length name) t)) ≡ pointed_read name d t
reads_front name d t long front =
    ap (suffix_read d) (between_to_end t (length name) (length t) (omega arith))
    ∙ sym (rw (le-leb (length name) (length t) long, front))
