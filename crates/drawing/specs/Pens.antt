-- What a pen means, and what its calls do. Assumes nothing.
use Rattle.std.specs.Prelude.{◌≡◌, ℕ, ◌<◌, ◌≤◌, Ok, Err, Result}
use Rattle.refusal.specs.declared.refusals.Refusal.{Refusal}
use Rattle.refusal.specs.declared.refusals.Refusal.TheVariants.{Gray}
use Rattle.drawing.specs.declared.pen.Setting.{Setting}
use Rattle.drawing.specs.declared.pen.Pen.{Pen}
use Rattle.drawing.specs.Clips.{Area, area, whole, common}

pub record PenMeaning : Type 0 where
  pub ink : ℕ
  pub clip : Area

abbrev pub setting_means : Setting → PenMeaning
setting_means s = record { ink = s.ink; clip = area s.clip }

abbrev pub pen_means : Pen → PenMeaning
pen_means p = setting_means p.setting

abbrev pub fresh_pen : PenMeaning
fresh_pen = record { ink = 15; clip = whole }

abbrev pub with_ink : PenMeaning → ℕ → PenMeaning
with_ink p gray = record { ink = gray; clip = p.clip }

-- the clip is reduced to what it has in common with an area
abbrev pub narrowed : PenMeaning → Area → PenMeaning
narrowed p a = record { ink = p.ink; clip = common p.clip a }

-- a gray above 15 is refused, and the pen stays as it was
abbrev pub InkStep : PenMeaning → ℕ → Result (Unit {0}) Refusal → PenMeaning → Type 0
InkStep before gray (Ok x) after = (gray ≤ 15) × (after ≡ with_ink before gray)
InkStep before gray (Err e) after = (15 < gray) × (e ≡ Gray) × (after ≡ before)
