-- The laws of a writer.
use Rattle.std.proofs.Common.{◌≡◌, ℕ, List, [], ◌++◌, refl, ◌∙◌}
use Rattle.writing.specs.declared.writer.Writer.{Writer}
use Rattle.writing.specs.Overlay.{Wrote}
use Rattle.writing.specs.Writers.{Puts}
use Rattle.writing.proofs.Overlays as overlays

infixl 40 ◌then◌
-- one write, and then another
pub ◌then◌ : {w w' w'' : Writer} {x y : List ℕ} → Puts w x w' → Puts w' y w'' → Puts w (x ++ y) w''
◌then◌ p q = record { same = q.same ∙ p.same; size = q.size ∙ p.size; wrote = overlays.◌then◌ p.wrote q.wrote }

-- nothing is written
pub puts_none : (w : Writer) → Puts w [] w
puts_none w = record { same = refl; size = refl; wrote = overlays.wrote_none w.buffer.now w.written }

-- what a writer that began at a buffer's start wrote in all
pub wrote_from_start : {b x b' : List ℕ} {e : ℕ} {w w' : Writer} → Puts w x w' → w.buffer.now ≡ b → w.written ≡ 0 → b' ≡ w'.buffer.now → e ≡ w'.written → Wrote b 0 x b' e
wrote_from_start p b start last e = overlays.wrote_as (rw (b, start) at p.wrote) refl last e
