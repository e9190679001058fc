use Rattle.std.proofs.Common.{◌≡◌, ◌<◌, [], ◌∷◌, length, arith, refl, inl, inr, ap, sym, ◌∙◌}
use Rattle.std.proofs.lemmas.Bool.{eqb-false}
use Rattle.pan_io.specs.Reader.{Reader}
use Rattle.pan_io.proofs.ReaderLemmas.{takes_cut, kind_answers, shows_line, shows_none, at_end}
use Rattle.pan_io.specs.declared.cut.Cut.TheVariants.{Whole, Last, Fault, Long}
use Rattle.pan_io.proofs.lines.Lines.take_open.Goals as goal

pub returns-in-Whole-clause-line : goal.returns-in-Whole-clause-line
returns-in-Whole-clause-line g c =
    let line = c.in-Whole.ensures.line in
    let kept = c.kept_len-self-inside.ensures in
    rw (← c.self.view_is) (
      line.0,
      10 ∷ [],
      takes_cut _ _ _ _ _ _ _ _ _ Whole line.0 line.2
          (kind_answers _ _ _ _ _ (c.kind_of.ensures line.0 line.1) (inl (refl, ap (λ (r : Reader). r.stop) c.self.view_is ∙ c.requires))
          (λ fits. shows_line _ line.0 _ line.1 fits (kept.line line.0 line.1 fits))
          (λ over. shows_none _ _ (kept.none line.0 line.1 over))),
    )

pub returns-else-is_empty-clause-line : goal.returns-else-is_empty-clause-line
returns-else-is_empty-clause-line g c =
    let line = c.in-Last.ensures.line in
    let kept = c.kept_len-self-inside-in-Last.ensures in
    let not_none : c.cut_line.new.draft.count ≡ 0 → ⊥ = eqb-false _ 0 (sym c.if-is_empty.ensures) in
    let some : 0 < length line.0 = omega (arith, line.1.counted) in
    rw (← c.self.view_is) (
      line.0,
      [],
      takes_cut _ _ _ _ _ _ _ _ _ Last line.0 line.2
          (kind_answers _ _ _ _ _ (c.kind_of-in-Last.ensures line.0 line.1) (inr (refl, some, refl, at_end _ _ line.2.ends.0 line.2.ends.1))
          (λ fits. shows_line _ line.0 _ line.1 fits (kept.line line.0 line.1 fits))
          (λ over. shows_none _ _ (kept.none line.0 line.1 over))),
    )

pub returns-in-Fault-clause-line : goal.returns-in-Fault-clause-line
returns-in-Fault-clause-line g c =
    let line = c.in-Fault.ensures.line in
    rw (← c.self.view_is) (line.0, [], takes_cut _ _ _ _ _ _ _ _ _ Fault line.0 line.2 (refl, refl, line.2.ends, refl))

pub returns-in-Long-clause-line : goal.returns-in-Long-clause-line
returns-in-Long-clause-line g c =
    let line = c.in-Long.ensures.line in
    rw (← c.self.view_is) (line.0, [], takes_cut _ _ _ _ _ _ _ _ _ Long line.0 line.2 (refl, refl, refl, line.2.ends.0, line.2.ends.1, refl))
