-- A text that grows at the front of a lent buffer. Assumes nothing.
use Rattle.std.specs.Prelude.{◌≡◌, ℕ, List, length}
use Rattle.ssd1329.specs.declared.controller.row_text.Text.{Text}
use Rattle.ssd1329.specs.RowText.{Put}

-- bytes more, in the same buffer
pub record Adds (before after : Text) (bytes : List ℕ) : Type 0 where
  pub put : Put before.buffer.now before.len bytes after.buffer.now after.len
  pub same_length : length after.buffer.now ≡ length before.buffer.now
  pub same_buffer : after.buffer.ghost_name ≡ before.buffer.ghost_name
