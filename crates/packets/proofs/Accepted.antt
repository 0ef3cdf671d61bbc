-- What follows where no number applies to a message.
use Rattle.std.proofs.Common.{◌≡◌, ℕ, Bool, true, false, cond, not, eqb, List, [], ◌∷◌, ◌++◌, map, is_some, Some, None, Option, sym, refl, ap, ◌∙◌, arith}
use Rattle.std.proofs.lemmas.Bool.{both_ways, and_parts, cond-true, cond-false, eqb-true}
use Rattle.std.specs.Option.{option_map}
use Rattle.std.specs.List.{AllByRecursion}
use Rattle.text.specs.Bytes.{each}
use Rattle.text.specs.Lines.{Line, fields}
use Rattle.calendar.specs.Days.{Days, Minute}
use Rattle.element.specs.Slots.{Slot, marks_pop_up}
use Rattle.element.specs.Meanings.{Meaning, name_read}
use Rattle.flights.specs.Counts.{some}
use Rattle.messages.specs.declared.kind.MessageType.{MessageType}
use Rattle.messages.specs.declared.kind.MessageType.TheVariants.{Fx, Fm, Sc}
use Rattle.messages.specs.Messages.{Written, Tags, no_tags, tags_from, takes, taken, and_then, type_read, written, written_from}
use Rattle.model.specs.Model.{Setting, Program}
use Rattle.packets.specs.Given.{invalid, given, value}
use Rattle.packets.specs.Messages.{Message, time_given, real_slot, slot_given, message_of, message_read, seat_from, seat_of}
use Rattle.packets.specs.StageOne.{untimely, incomplete, no_slot_name, unknown, foreign, uncontrolled, controlled, gone, on_pop_up, off_slot, off_minute, ete_unfit, held, first_of, stage_one, fault_alone}
use Rattle.packets.specs.StageTwo.{repeated, unheld, claimed, stranded, stage_two, faults_together}
use Rattle.packets.specs.Verdict.{messages_of, all_pass, line_numbers}
use Rattle.packets.proofs.Deciding.{by_test}
use Rattle.packets.proofs.Table.{some_true}

-- none of these tests applies
abbrev NoneOf : List (ℕ × Bool) → Type 0
NoneOf [] = Unit {0}
NoneOf (c ∷ cs) = (c.1 ≡ false) × NoneOf cs

none_of : (cs : List (ℕ × Bool)) → each (λ c. some c.0) cs ≡ true → first_of cs ≡ 0 → NoneOf cs
none_of [] h e = tt
none_of (c ∷ cs) h e =
    let p = and_parts (some c.0) _ h in
    by_test c.1
    (λ q.
    let z = sym (cond-true c.1 c.0 (first_of cs) q) ∙ e in
    let y = some_true c.0 p.0 in
    absurd (omega arith))
    (λ q. (q, none_of cs p.1 (sym (cond-false c.1 c.0 (first_of cs) q) ∙ e)))

-- a message that passes stage one
pub record Alone {S : Type 0} (s : Setting S) (p : Program) (u : ℕ) (m : Message) : Type 0 where
  pub timely : untimely m ≡ false
  pub complete : incomplete m ≡ false
  pub slotted : no_slot_name m ≡ false
  pub known : unknown p m ≡ false
  pub own : foreign s p u m ≡ false
  pub under_control : uncontrolled p m ≡ false
  pub out_of_control : controlled p m ≡ false
  pub not_gone : gone p m ≡ false
  pub no_pop_up : on_pop_up p m ≡ false
  pub in_slot_fact : off_slot m ≡ false
  pub on_minute : off_minute m ≡ false
  pub ete_fits_fact : ete_unfit p m ≡ false
  pub not_held : held p m ≡ false

alone_from : {S : Type 0} (s : Setting S) (p : Program) (u : ℕ) (m : Message) → first_of (stage_one s p u m) ≡ 0 → Alone s p u m
alone_from s p u m h =
    let a = none_of (stage_one s p u m) refl h in
    let b = a.1.1.1.1 in
    let c = b.1.1.1.1 in
    record {
      timely = a.0;
      complete = a.1.0;
      slotted = a.1.1.0;
      known = a.1.1.1.0;
      own = b.0;
      under_control = b.1.0;
      out_of_control = b.1.1.0;
      not_gone = b.1.1.1.0;
      no_pop_up = c.0;
      in_slot_fact = c.1.0;
      on_minute = c.1.1.0;
      ete_fits_fact = c.1.1.1.0;
      not_held = c.1.1.1.1.0;
    }

-- a message that passes stage two after those before it
pub record Together {S : Type 0} (s : Setting S) (p : Program) (u : ℕ) (all before : List Message) (m : Message) : Type 0 where
  pub first : repeated before m ≡ false
  pub user_holds : unheld s p u m ≡ false
  pub unclaimed : claimed before m ≡ false
  pub holder_moves_fact : stranded s p u all m ≡ false

together_from : {S : Type 0} (s : Setting S) (p : Program) (u : ℕ) (all before : List Message) (m : Message) → first_of (stage_two s p u all before m) ≡ 0 → Together s p u all before m
together_from s p u all before m h =
    let a = none_of (stage_two s p u all before m) refl h in
    record { first = a.0; user_holds = a.1.0; unclaimed = a.1.1.0; holder_moves_fact = a.1.1.1.0 }

-- a message that is read from a line: an FX asks for no seat, no slot has the letter Z, and only an FM has a T8
pub record Reads (m : Message) : Type 0 where
  pub unseated : m.kind ≡ Fx → seat_of m ≡ None
  pub real : (x : Slot) → value m.slot ≡ Some x → marks_pop_up x ≡ false
  pub timed : (t : Minute) → value m.erta ≡ Some t → m.kind ≡ Fm

real_value : (o : Option Slot) (x : Slot) → value (real_slot o) ≡ Some x → marks_pop_up x ≡ false
real_value None x h = let z : ◌≡◌ {A = ℕ} 0 1 = cc in absurd (omega arith)
real_value (Some y) x h =
    by_test (marks_pop_up y)
    (λ e. let q : None ≡ Some x = sym (ap value (cond-true (marks_pop_up y) invalid (given y) e)) ∙ h in let z : ◌≡◌ {A = ℕ} 0 1 = cc in absurd (omega arith))
    (λ e. let q : Some y ≡ Some x = sym (ap value (cond-false (marks_pop_up y) invalid (given y) e)) ∙ h in let same : y ≡ x = cc in ap marks_pop_up (sym same) ∙ e)

real_given : (names : Slot → List ℕ) (o : Option (List ℕ)) (x : Slot) → value (slot_given names o) ≡ Some x → marks_pop_up x ≡ false
real_given names None x h = let z : ◌≡◌ {A = ℕ} 0 1 = cc in absurd (omega arith)
real_given names (Some t) x h = real_value (name_read names t) x h

untimed : (d : Days) (o : Option (List ℕ)) → not (is_some o) ≡ true → value (time_given d o) ≡ None
untimed d None h = refl
untimed d (Some t) h = absurd (both_ways false refl h)

fx_unseated : (e : Meaning) (d : Days) (w : Written) (k : MessageType) → k ≡ Fx → takes k w.tags ≡ true → seat_of (message_of e d w) ≡ None
fx_unseated e d w Fx q h =
    let a = and_parts _ (not (is_some w.tags.slot)) h in
    let b = and_parts _ (not (is_some w.tags.erta)) a.0 in
    let c = and_parts (not (is_some w.tags.ctd)) _ b.0 in
    ap (λ o. seat_from o (value (time_given d w.tags.cta)) (value (slot_given (e.slot_name d) w.tags.slot))) (untimed d w.tags.ctd c.0)
fx_unseated e d w Fm q h = let z : ◌≡◌ {A = ℕ} 0 1 = cc in absurd (omega arith)
fx_unseated e d w Sc q h = let z : ◌≡◌ {A = ℕ} 0 1 = cc in absurd (omega arith)

timed_fm : (d : Days) (o : Option (List ℕ)) (a : Tags) (k : MessageType) → a.erta ≡ o → takes k a ≡ true → (t : Minute) → value (time_given d o) ≡ Some t → k ≡ Fm
timed_fm d None a k q h t e = let z : ◌≡◌ {A = ℕ} 0 1 = cc in absurd (omega arith)
timed_fm d (Some v) a Fx q h t e =
    let b = and_parts _ (not (is_some a.slot)) h in
    let c = and_parts _ (not (is_some a.erta)) b.0 in
    absurd (both_ways false refl (ap (λ o. not (is_some o)) (sym q) ∙ c.1))
timed_fm d (Some v) a Fm q h t e = refl
timed_fm d (Some v) a Sc q h t e =
    let b = and_parts (not (is_some a.erta)) _ h in
    absurd (both_ways false refl (ap (λ o. not (is_some o)) (sym q) ∙ b.0))

abbrev Taken : Option Written → Type 0
Taken None = Unit {0}
Taken (Some w) = takes w.kind w.tags ≡ true

taken_cond : (b : Bool) (o : Option Written) → Taken o → Taken (cond b o None)
taken_cond true o h = h
taken_cond false o h = tt

taken_tags : (b : Bool) (k : MessageType) (a : Tags) (id dep arr date : List ℕ) → takes k a ≡ b →
    Taken (and_then (cond b (Some a) None) (λ t. Some (record { kind = k; id = id; departure = dep; arrival = arr; date = date; tags = t })))
taken_tags true k a id dep arr date h = h
taken_tags false k a id dep arr date h = tt

taken_from : (ok : Option MessageType) (oa : Option Tags) (id dep arr date : List ℕ) →
    Taken (and_then ok (λ k. and_then (and_then oa (taken k)) (λ a. Some (record { kind = k; id = id; departure = dep; arrival = arr; date = date; tags = a }))))
taken_from None oa id dep arr date = tt
taken_from (Some k) None id dep arr date = tt
taken_from (Some k) (Some a) id dep arr date = taken_tags (takes k a) k a id dep arr date refl

taken_written : (ts : List (List ℕ)) → Taken (written_from ts)
taken_written [] = tt
taken_written (w ∷ []) = tt
taken_written (w ∷ id ∷ []) = tt
taken_written (w ∷ id ∷ dep ∷ []) = tt
taken_written (w ∷ id ∷ dep ∷ arr ∷ []) = tt
taken_written (w ∷ id ∷ dep ∷ arr ∷ date ∷ rest) =
    taken_cond _ _ (taken_from (type_read w) (tags_from no_tags rest) id dep arr date)

reads_of : (e : Meaning) (d : Days) (o : Option Written) → Taken o → AllByRecursion Reads (messages_of (option_map (message_of e d) o ∷ []))
reads_of e d None h = tt
reads_of e d (Some w) h = (
  record {
    unseated = λ q. fx_unseated e d w w.kind q h;
    real = λ x. real_given (e.slot_name d) w.tags.slot x;
    timed = timed_fm d w.tags.erta w.tags w.kind refl h;
  },
  tt,
)

reads_more : (o : Option Message) (os : List (Option Message)) → AllByRecursion Reads (messages_of (o ∷ [])) → AllByRecursion Reads (messages_of os) → AllByRecursion Reads (messages_of (o ∷ os))
reads_more None os h k = k
reads_more (Some m) os h k = (h.0, k)

pub all_read : (e : Meaning) (d : Days) (ls : List Line) → AllByRecursion Reads (messages_of (map (message_read e d) ls))
all_read e d [] = tt
all_read e d (l ∷ ls) =
    reads_more (message_read e d l) _
    (reads_of e d (written l) (taken_cond l.readable (written_from (fields l.text)) (taken_written (fields l.text))))
    (all_read e d ls)

-- a message of an accepted packet, where `all` are the messages and `before` are those before it
pub record Accepted {S : Type 0} (s : Setting S) (p : Program) (u : ℕ) (all before : List Message) (m : Message) : Type 0 where
  pub alone : Alone s p u m
  pub read : Reads m
  pub together : Together s p u all before m

abbrev pub Accepts : {S : Type 0} → Setting S → Program → ℕ → List Message → List Message → List Message → Type 0
Accepts s p u all before [] = Unit {0}
Accepts s p u all before (m ∷ ms) = Accepted s p u all before m × Accepts s p u all (before ++ m ∷ []) ms

module _ {S : Type 0} (s : Setting S) (p : Program) (u : ℕ) where
  -- the messages of lines that pass stage one
  pub pass_alone : (os : List (Option Message)) → all_pass (map (fault_alone s p u) os) ≡ true → AllByRecursion (Alone s p u) (messages_of os)
  pass_alone [] h = tt
  pass_alone (None ∷ os) h = absurd (both_ways false refl h)
  pass_alone (Some m ∷ os) h =
      let q = and_parts (eqb (first_of (stage_one s p u m)) 0) _ h in
      (alone_from s p u m (eqb-true _ 0 q.0), pass_alone os q.1)

  accepts_from : (all before ms : List Message) → AllByRecursion (Alone s p u) ms → AllByRecursion Reads ms → all_pass (faults_together s p u all before ms) ≡ true → Accepts s p u all before ms
  accepts_from all before [] a r h = tt
  accepts_from all before (m ∷ ms) a r h =
      let q = and_parts (eqb (first_of (stage_two s p u all before m)) 0) _ h in (
        record { alone = a.0; read = r.0; together = together_from s p u all before m (eqb-true _ 0 q.0) },
        accepts_from all (before ++ m ∷ []) ms a.1 r.1 q.1,
      )

  -- the messages of a packet whose lines all pass
  pub accepts : (os : List (Option Message)) → AllByRecursion Reads (messages_of os) → all_pass (line_numbers s p u os) ≡ true → Accepts s p u (messages_of os) [] (messages_of os)
  accepts os r h =
      let one = all_pass (map (fault_alone s p u) os) in
      by_test one
      (λ e. accepts_from (messages_of os) [] (messages_of os) (pass_alone os e) r (ap all_pass (sym (cond-true one (faults_together s p u (messages_of os) [] (messages_of os)) (map (fault_alone s p u) os) e)) ∙ h))
      (λ e. absurd (both_ways one e (ap all_pass (sym (cond-false one (faults_together s p u (messages_of os) [] (messages_of os)) (map (fault_alone s p u) os) e)) ∙ h)))

  pub accepts_alone : (all before ms : List Message) → Accepts s p u all before ms → AllByRecursion (λ m. Alone s p u m × Reads m) ms
  accepts_alone all before [] a = tt
  accepts_alone all before (m ∷ ms) a = ((a.0.alone, a.0.read), accepts_alone all (before ++ m ∷ []) ms a.1)
