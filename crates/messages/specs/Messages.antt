-- Message lines, by the texts that they hold.
use Rattle.std.specs.Prelude.{ℕ, Bool, true, false, cond, not, ◌&&◌, List, [], ◌∷◌, is_some, Some, None, codes, Option, ◌==◌}
use Rattle.std.specs.Str.{bytes_eq}
use Rattle.text.specs.Lines.{Line, fields}
use Rattle.calendar.specs.Identities.{is_id, is_airport}
use Rattle.messages.specs.declared.kind.MessageType.{MessageType}
use Rattle.messages.specs.declared.kind.MessageType.TheVariants.{Fx, Fm, Sc}

-- FX cancels, FM moves, SC creates a slot
abbrev pub type_read : List ℕ → Option MessageType
type_read t =
    cond (bytes_eq t (codes "FX")) (Some Fx) (cond (bytes_eq t (codes "FM")) (Some Fm) (cond (bytes_eq t (codes "SC")) (Some Sc) None))

-- a tag with its value
pub data Said : Type 0 where
  t5 : List ℕ → Said
  t6 : List ℕ → Said
  t8 : List ℕ → Said
  a2 : List ℕ → Said
  sh : List ℕ → Said

-- the letter Y or the letter N, and nothing else
abbrev pub letter_read : ℕ → Option Bool
letter_read c = cond (c == 89) (Some true) (cond (c == 78) (Some false) None)

abbrev pub hold_read : List ℕ → Option Bool
hold_read [] = None
hold_read (c ∷ []) = letter_read c
hold_read (c ∷ d ∷ more) = None

abbrev pub tag_read : List ℕ → List ℕ → Option Said
tag_read word value =
    cond (bytes_eq word (codes "T5")) (Some (t5 value))
    (cond (bytes_eq word (codes "T6")) (Some (t6 value))
    (cond (bytes_eq word (codes "T8")) (Some (t8 value))
    (cond (bytes_eq word (codes "A2")) (Some (a2 value))
    (cond (bytes_eq word (codes "SH")) (Some (sh value)) None))))

-- the tags of a line, each at most once
pub record Tags : Type 0 where
  pub ctd : Option (List ℕ)
  pub cta : Option (List ℕ)
  pub erta : Option (List ℕ)
  pub slot : Option (List ℕ)
  pub hold : Option Bool

abbrev pub no_tags : Tags
no_tags = record { ctd = None; cta = None; erta = None; slot = None; hold = None }

abbrev pub once : {X : Type 0} → Option X → Tags → Option Tags
once None tags = Some tags
once (Some x) tags = None

-- an SH with the letter Y or the letter N
abbrev pub with_hold : Tags → Option Bool → Option Tags
with_hold a None = None
with_hold a (Some b) = once a.hold (record { ctd = a.ctd; cta = a.cta; erta = a.erta; slot = a.slot; hold = Some b })

-- one tag more, where it is not there yet
abbrev pub with_tag : Tags → Said → Option Tags
with_tag a (t5 v) = once a.ctd (record { ctd = Some v; cta = a.cta; erta = a.erta; slot = a.slot; hold = a.hold })
with_tag a (t6 v) = once a.cta (record { ctd = a.ctd; cta = Some v; erta = a.erta; slot = a.slot; hold = a.hold })
with_tag a (t8 v) = once a.erta (record { ctd = a.ctd; cta = a.cta; erta = Some v; slot = a.slot; hold = a.hold })
with_tag a (a2 v) = once a.slot (record { ctd = a.ctd; cta = a.cta; erta = a.erta; slot = Some v; hold = a.hold })
with_tag a (sh v) = with_hold a (hold_read v)

abbrev pub and_then : {X Y : Type 0} → Option X → (X → Option Y) → Option Y
and_then None f = None
and_then (Some x) f = f x

-- the tags of some fields, two to a tag
abbrev pub tags_from : Tags → List (List ℕ) → Option Tags
tags_from a [] = Some a
tags_from a (w ∷ []) = None
tags_from a (w ∷ v ∷ rest) = and_then (and_then (tag_read w v) (with_tag a)) (λ b. tags_from b rest)

-- the tags that a type takes: FX only SH, FM all but SH, SC only T5, T6 and A2
abbrev pub takes : MessageType → Tags → Bool
takes Fx a = not (is_some a.ctd) && not (is_some a.cta) && not (is_some a.erta) && not (is_some a.slot)
takes Fm a = not (is_some a.hold)
takes Sc a = not (is_some a.erta) && not (is_some a.hold)

-- a message by its texts
pub record Written : Type 0 where
  pub kind : MessageType
  pub id : List ℕ
  pub departure : List ℕ
  pub arrival : List ℕ
  pub date : List ℕ
  pub tags : Tags

abbrev pub taken : MessageType → Tags → Option Tags
taken k a = cond (takes k a) (Some a) None

-- the type, four identity fields, and the tags
abbrev pub written_from : List (List ℕ) → Option Written
written_from [] = None
written_from (w ∷ []) = None
written_from (w ∷ id ∷ []) = None
written_from (w ∷ id ∷ dep ∷ []) = None
written_from (w ∷ id ∷ dep ∷ arr ∷ []) = None
written_from (w ∷ id ∷ dep ∷ arr ∷ date ∷ rest) =
    cond (is_id id && is_airport dep && is_airport arr)
    (and_then (type_read w) (λ k. and_then (and_then (tags_from no_tags rest) (taken k)) (λ a.
    Some (record { kind = k; id = id; departure = dep; arrival = arr; date = date; tags = a }))))
    None

-- a message line: readable, with its type, tags, SH value, field count, ID and airports as they have to be
abbrev pub written : Line → Option Written
written l = cond l.readable (written_from (fields l.text)) None
