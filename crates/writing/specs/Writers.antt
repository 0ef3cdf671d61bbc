-- A writer before and after it writes.
use Rattle.std.specs.Prelude.{◌≡◌, ℕ, ◌+◌, ◌≤◌, List, length}
use Rattle.writing.specs.declared.writer.Writer.{Writer}
use Rattle.writing.specs.Overlay.{Wrote}

-- n more bytes fit
abbrev pub HasRoom : Writer → ℕ → Type 0
HasRoom w n = w.written + n ≤ length w.buffer.now

-- w wrote the bytes x after what it had written, in the same buffer, and is now w'
pub record Puts (w : Writer) (x : List ℕ) (w' : Writer) : Type 0 where
  pub same : w'.buffer.ghost_name ≡ w.buffer.ghost_name
  pub size : length w'.buffer.now ≡ length w.buffer.now
  pub wrote : Wrote w.buffer.now w.written x w'.buffer.now w'.written
