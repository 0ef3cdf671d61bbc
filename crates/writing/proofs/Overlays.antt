-- The laws of overlay.
use Rattle.std.proofs.Common.{◌≡◌, ℕ, ◌+◌, ◌-◌, ◌<◌, ◌≤◌, List, [], ◌∷◌, ◌++◌, length, take, drop, set, sym, ap, ◌∙◌, ⊎_elim, append_assoc, append-nil, add-zero, add_assoc, add-one, arith, length-append, length-drop, take-append-drop, length-take}
use borrow.Rule.Slice.PartMut.{put_mid, Post-is}
use Rattle.std.proofs.lemmas.List.{take_at, drop_at, take_all, drop_all, drop-drop, length-take-le, set_split}
use Rattle.std.proofs.lemmas.Bool.{cases_lt}
use Rattle.writing.specs.Overlay.{overlay, Wrote}

pub overlay_none : (b : List ℕ) (at : ℕ) → overlay b at [] ≡ b
unfolding overlay
overlay_none b at = rw add-zero (take-append-drop at b)

-- what `out[at..end].copy_from_slice(x)` leaves
pub overlay_part : (b : List ℕ) (at e : ℕ) (x y : List ℕ) → e ≡ at + length x → y ≡ x → put_mid at (e - at) b y ≡ overlay b at x
unfolding overlay
overlay_part b at e x y p q =
    let h : at ≤ e = omega arith in
    rw (Post-is at e b h, q, p)

pub length_overlay : (b : List ℕ) (at : ℕ) (x : List ℕ) → at + length x ≤ length b → length (overlay b at x) ≡ length b
unfolding overlay
length_overlay b at x h = simp (length-append, length-take, length-drop) (omega arith)

within : (b : List ℕ) (at : ℕ) (x y : List ℕ) → at ≤ length b → overlay (overlay b at x) (at + length x) y ≡ overlay b at (x ++ y)
unfolding overlay
within b at x y h =
    let p = take at b in
    let q = drop (at + length x) b in
    let n : length (p ++ x) ≡ at + length x = simp length-append (omega (arith, length-take-le at b h)) in
    let t : take (at + length x) (p ++ (x ++ q)) ≡ p ++ x = rw (← append_assoc) (take_at (p ++ x) q (at + length x) n) in
    let d : drop (at + length x) (p ++ (x ++ q)) ≡ q = rw (← append_assoc) (drop_at (p ++ x) q (at + length x) n) in
    let e : drop (at + length x + length y) (p ++ (x ++ q)) ≡ drop (at + length (x ++ y)) b =
    sym (drop-drop (length y) (at + length x) (p ++ (x ++ q))) ∙ ap (λ (l : List ℕ). drop (length y) l) d ∙ drop-drop (length y) (at + length x) b
    ∙ simp (length-append, add_assoc) in
    rw (t, e) (simp append_assoc)

beyond : (b : List ℕ) (at : ℕ) (x y : List ℕ) → length b ≤ at → overlay (overlay b at x) (at + length x) y ≡ overlay b at (x ++ y)
unfolding overlay
beyond b at x y h =
    let p : take at b ≡ b = take_all at b h in
    let q : drop (at + length x) b ≡ [] = drop_all (at + length x) b (omega arith) in
    let r : drop (at + length (x ++ y)) b ≡ [] = drop_all (at + length (x ++ y)) b (omega arith) in
    let n : length (b ++ x) ≤ at + length x = simp length-append (omega arith) in
    let t : take (at + length x) (b ++ x) ≡ b ++ x = take_all (at + length x) (b ++ x) n in
    let d : drop (at + length x + length y) (b ++ x) ≡ [] = drop_all (at + length x + length y) (b ++ x) (omega arith) in
    simp (p, q, r, t, d, append-nil, append_assoc)

-- one write after another is the write of both
pub overlay_more : (b : List ℕ) (at : ℕ) (x y : List ℕ) → overlay (overlay b at x) (at + length x) y ≡ overlay b at (x ++ y)
overlay_more b at x y = ⊎_elim (λ h. within b at x y (omega arith)) (beyond b at x y) (cases_lt at (length b))

-- what `out[at] = v` leaves
pub overlay_byte : (b : List ℕ) (at v : ℕ) → at < length b → set b at v ≡ overlay b at (v ∷ [])
unfolding overlay
overlay_byte b at v h = rw add-one (set_split b at v h)

infixl 40 ◌then◌
-- one write, and then another from where it ended
pub ◌then◌ : {b x b₁ y b₂ : List ℕ} {at e₁ e₂ : ℕ} → Wrote b at x b₁ e₁ → Wrote b₁ e₁ y b₂ e₂ → Wrote b at (x ++ y) b₂ e₂
◌then◌ {b} {x} {b₁} {y} {b₂} {at} {e₁} {e₂} p q = record {
  buffer = q.buffer ∙ rw (p.buffer, p.end) (overlay_more b at x y);
  end = simp length-append (omega arith);
}

-- nothing is written
pub wrote_none : (b : List ℕ) (at : ℕ) → Wrote b at [] b at
wrote_none b at = record { buffer = sym (overlay_none b at); end = sym (add-zero at) }

-- the same write under other names
pub wrote_as : {b x y b₁ b₂ : List ℕ} {at e₁ e₂ : ℕ} → Wrote b at x b₁ e₁ → y ≡ x → b₂ ≡ b₁ → e₂ ≡ e₁ → Wrote b at y b₂ e₂
wrote_as p xs bs es = record { buffer = rw (bs, xs) p.buffer; end = rw (es, xs) p.end }
