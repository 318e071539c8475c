-- The registers that say how memory comes to the glass. Assumes nothing.
use Rattle.std.specs.Prelude.{ℕ}

pub record Settings : Type 0 where
  pub remap : ℕ
  pub start : ℕ
  pub offset : ℕ
  pub mux : ℕ

abbrev pub at_reset : Settings
at_reset = record { remap = 0; start = 0; offset = 0; mux = 127 }

abbrev pub with_remap : Settings → ℕ → Settings
with_remap s n = record { remap = n; start = s.start; offset = s.offset; mux = s.mux }

abbrev pub with_start : Settings → ℕ → Settings
with_start s n = record { remap = s.remap; start = n; offset = s.offset; mux = s.mux }

abbrev pub with_offset : Settings → ℕ → Settings
with_offset s n = record { remap = s.remap; start = s.start; offset = n; mux = s.mux }

abbrev pub with_mux : Settings → ℕ → Settings
with_mux s n = record { remap = s.remap; start = s.start; offset = s.offset; mux = n }
