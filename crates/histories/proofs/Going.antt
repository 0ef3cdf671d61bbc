-- A history that is run turn by turn.
use Rattle.std.proofs.Common.{◌≡◌, ℕ, ◌+◌, ◌<◌, List, [], ◌∷◌, ◌++◌, map, length, get_or, take, drop, set, vec_items, sym, refl, ap, ◌∙◌, subst, ap₂, append_assoc, append-nil, arith, length-set}
use Rattle.std.proofs.lemmas.List.{map-append, take_more, take_more_set, take_all, drop_more, drop-set-lt, drop_all}
use Rattle.std.proofs.lemmas.List.Elements.{all_zip_more}
use Rattle.std.specs.List.{AllZip}
use Rattle.model.specs.Model.{Setting, Program, Call, Answer}
use Rattle.processor.specs.Step.{step}
use Rattle.histories.specs.declared.turn.Call.{Call as KeptCall}
use Rattle.histories.specs.declared.turn.Turn.{Turn}
use Rattle.histories.specs.Runs.{after, answers, Event, events}
use Rattle.histories.specs.Turns.{call_with, call_of, buffer_with, answer_of}
use Rattle.histories.specs.Running.{Leaves, Makes, Taken, Ran, made_by, numbered}

-- a turn and what its call leaves of its buffer
abbrev pub Left : {S : Type 0} → Turn S → Turn S → Type 0
Left t t' = Leaves t.call (vec_items t.buffer) (vec_items t'.buffer)

-- the first i turns are taken: what is answered so far and what the model answers to the rest are the model's answers to all
pub record Going {S : Type 0} (s : Setting S) (p₀ p : Program) (ts₀ ts : List (Turn S)) (i : ℕ) : Type 0 where
  pub said : map answer_of (take i ts) ++ answers s p (map call_of (drop i ts₀)) ≡ answers s p₀ (map call_of ts₀)
  pub ends : after s p (map call_of (drop i ts₀)) ≡ after s p₀ (map call_of ts₀)
  pub same : map made_by (take i ts) ≡ map made_by (take i ts₀)
  pub leaves : AllZip Left (take i ts₀) (take i ts)
  pub rest : drop i ts ≡ drop i ts₀
  pub size : length ts ≡ length ts₀

pub going_start : {S : Type 0} (s : Setting S) (p : Program) (ts : List (Turn S)) → Going s p p ts ts 0
going_start s p ts = record { said = refl; ends = refl; same = refl; leaves = tt; rest = refl; size = refl }

pub going_turn : {S : Type 0} (s : Setting S) (p₀ p p' : Program) (ts₀ ts : List (Turn S)) (i : ℕ) (t t' : Turn S) → Going s p₀ p ts₀ ts i → i < length ts → t ≡ get_or ts i t → Taken s p p' t t' → Going s p₀ p' ts₀ (set ts i t') (i + 1)
going_turn {S} s p₀ p p' ts₀ ts i t t' g h item k =
    let h₀ : i < length ts₀ = omega (arith, g.size) in
    let here = drop_more ts i t h in
    let there = drop_more ts₀ i t h₀ in
    let both : get_or ts i t ∷ drop (i + 1) ts ≡ get_or ts₀ i t ∷ drop (i + 1) ts₀ = sym here ∙ (g.rest ∙ there) in
    let first : get_or ts i t ≡ get_or ts₀ i t = cc both in
    let later : drop (i + 1) ts ≡ drop (i + 1) ts₀ = cc both in
    let item₀ : t ≡ get_or ts₀ i t = item ∙ first in
    let front = take_more_set ts i t' h in
    let front₀ = take_more ts₀ i t h₀ in
    let calls : map call_of (drop i ts₀) ≡ call_of t ∷ map call_of (drop (i + 1) ts₀) =
    ap (map call_of) there ∙ ap (λ (x : Turn S). call_of x ∷ map call_of (drop (i + 1) ts₀)) (sym item₀) in
    let now₁ : (step s p (call_of t)).1 ≡ answer_of t' = sym (ap (λ (x : Program × Answer). x.1) k.does) in
    let now₀ : (step s p (call_of t)).0 ≡ p' = sym (ap (λ (x : Program × Answer). x.0) k.does) in
    let left = map call_of (drop (i + 1) ts₀) in
    record {
      said =
          ap (λ (l : List (Turn S)). map answer_of l ++ answers s p' left) front
          ∙ ap (λ (l : List Answer). l ++ answers s p' left) (map-append answer_of (take i ts) (t' ∷ []))
          ∙ append_assoc (map answer_of (take i ts)) (answer_of t' ∷ []) (answers s p' left)
          ∙ ap₂ (λ (a : Answer) (q : Program). map answer_of (take i ts) ++ a ∷ answers s q left) (sym now₁) (sym now₀)
          ∙ ap (λ (cs : List (Call S)). map answer_of (take i ts) ++ answers s p cs) (sym calls)
          ∙ g.said;
      ends = ap (λ (q : Program). after s q left) (sym now₀) ∙ (ap (after s p) (sym calls) ∙ g.ends);
      same =
          ap (map made_by) front
          ∙ map-append made_by (take i ts) (t' ∷ [])
          ∙ ap₂ (λ (l : List (KeptCall S)) (c : KeptCall S). l ++ c ∷ []) g.same (k.same ∙ ap made_by item₀)
          ∙ sym (map-append made_by (take i ts₀) (get_or ts₀ i t ∷ []))
          ∙ sym (ap (map made_by) front₀);
      leaves = subst (λ (l : List (Turn S)). AllZip Left (take (i + 1) ts₀) l) (sym front) (all_zip_more Left ts₀ (take i ts) i t t' h₀ item₀ g.leaves k.leaves);
      rest = drop-set-lt (i + 1) ts i t' (omega arith) ∙ later;
      size = length-set ts i t' ∙ g.size;
    }

pub going_end : {S : Type 0} (s : Setting S) (p₀ p : Program) (ts₀ ts : List (Turn S)) (i : ℕ) → Going s p₀ p ts₀ ts i → i ≡ length ts → Ran s p₀ p ts₀ ts
going_end {S} s p₀ p ts₀ ts i g e =
    let all = take_all i ts (omega arith) in
    let all₀ = take_all i ts₀ (omega (arith, g.size)) in
    let none : drop i ts₀ ≡ [] = drop_all i ts₀ (omega (arith, g.size)) in
    record {
      said =
          sym (append-nil (map answer_of ts))
          ∙ ap (λ (l : List (Turn S)). map answer_of l ++ []) (sym all)
          ∙ ap (λ (l : List (Turn S)). map answer_of (take i ts) ++ answers s p (map call_of l)) (sym none)
          ∙ g.said;
      ends = ap (λ (l : List (Turn S)). after s p (map call_of l)) (sym none) ∙ g.ends;
      same = ap (map made_by) (sym all) ∙ (g.same ∙ ap (map made_by) all₀);
      leaves = subst (λ (l : List (Turn S)). AllZip Left l ts) all₀ (subst (λ (l : List (Turn S)). AllZip Left (take i ts₀) l) all g.leaves);
    }

-- the real first numbers are those of the model
pub numbers_told : {S : Type 0} (s : Setting S) (p : Program) (ts ts' : List (Turn S)) → map answer_of ts' ≡ answers s p (map call_of ts) → numbered ts ts' ≡ events s p (map call_of ts)
numbers_told s p [] ts' e = refl
numbers_told s p (t ∷ ts) [] e = let z : ◌≡◌ {A = ℕ} 0 1 = cc in absurd (omega arith)
numbers_told {S} s p (t ∷ ts) (t' ∷ ts') e =
    let first : answer_of t' ≡ (step s p (call_of t)).1 = cc e in
    let more : map answer_of ts' ≡ answers s (step s p (call_of t)).0 (map call_of ts) = cc e in
    ap₂ (λ (n : ℕ) (es : List (Event S)). record { call = call_of t; number = n } ∷ es) (ap (λ (a : Answer). a.number) first) (numbers_told s (step s p (call_of t)).0 ts ts' more)

-- a call that is made with a turn's buffer
pub taken_from : {S : Type 0} (s : Setting S) (p p' : Program) (t t' : Turn S) (pair : ℕ × ℕ) (b b' : List ℕ) → Makes s p p' t.call pair b b' → b ≡ vec_items t.buffer → vec_items t'.buffer ≡ b' →
    t'.call ≡ t.call → t'.pair ≡ pair → Taken s p p' t t'
taken_from {S} s p p' t t' pair b b' m start end call said = record {
  does =
      ap (λ (c : KeptCall S). (p', record { number = t'.pair.0; second = t'.pair.1; buffer = buffer_with c (vec_items t'.buffer) })) call
      ∙ ap (λ (x : List ℕ). (p', record { number = t'.pair.0; second = t'.pair.1; buffer = buffer_with t.call x })) end
      ∙ ap (λ (x : ℕ × ℕ). (p', record { number = x.0; second = x.1; buffer = buffer_with t.call b' })) said
      ∙ m.does
      ∙ ap (λ (x : List ℕ). step s p (call_with t.call x)) start;
  leaves = subst (λ (x : List ℕ). Leaves t.call x (vec_items t'.buffer)) start (subst (λ (x : List ℕ). Leaves t.call b x) (sym end) m.leaves);
  same = call;
}
