-- What a link that nothing was used of tells, and what a count that rose from 0 is.
use Rattle.std.proofs.Common.{◌≡◌, ℕ, ◌<◌, inl, inr, List, Option, Some, None, refl, ap, arith}
use Rattle.std.specs.Prelude.{is_some}
use Rattle.pan_io.specs.Doors.{HasTakenNone}
use Rattle.pan_io.specs.Faults.{Rose}
use Rattle.link_server.specs.Links.{none_yet}

pub none_taken_yet : (old new : Option (List ℕ)) → HasTakenNone old → is_some new ≡ is_some old → old ≡ none_yet new
none_taken_yet None None none same = refl
none_taken_yet None (Some taken) none same = absurd cc
none_taken_yet (Some before) None none same = absurd cc
none_taken_yet (Some before) (Some taken) none same = ap Some none

pub above : (before now : ℕ) → before ≡ 0 → Rose before now → 0 < now
above before now none (inl up) = omega arith
above before now none (inr most) = omega arith
