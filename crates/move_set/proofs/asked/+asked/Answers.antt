use Rattle.std.proofs.Common.{◌∙◌, ap, ap₂, map, sym}
use Rattle.move_set.specs.Asked.{or_first, first_of, first_asked}
use Rattle.move_set.proofs.AskedEquations.{asked_const, asked_app, asked_lam, asked_pi}
use Rattle.move_set.proofs.asked.+asked.Goals as goal

pub first_asked-returns-in-Const : goal.first_asked-returns-in-Const
first_asked-returns-in-Const t c = c.first_asked_in.ensures ∙ ap (λ us. first_of (map first_asked us)) c.as_slice.ensures ∙ sym (asked_const c.args.t.now _ c.in-Const.us c.in-Const.is)

pub first_asked-returns-in-App : goal.first_asked-returns-in-App
first_asked-returns-in-App t c =
    c.or_first.ensures ∙ ap₂ or_first (c.first_asked.ensures ∙ ap first_asked c.get.ensures) (c.first_asked_in-in-App.ensures ∙ ap (λ us. first_of (map first_asked us)) c.as_slice-in-App.ensures)
    ∙ sym (asked_app c.args.t.now c.in-App.f c.in-App.us c.in-App.is)

pub first_asked-returns-in-Lam : goal.first_asked-returns-in-Lam
first_asked-returns-in-Lam t c =
    c.or_first-in-Lam.ensures ∙ ap₂ or_first (c.first_asked-in-Lam.ensures ∙ ap first_asked c.get-in-Lam.ensures) (c.first_asked-in-Lam-2.ensures ∙ ap first_asked c.get-in-Lam-2.ensures)
    ∙ sym (asked_lam c.args.t.now _ c.in-Lam.a c.in-Lam.m c.in-Lam.is)

pub first_asked-returns-in-Pi : goal.first_asked-returns-in-Pi
first_asked-returns-in-Pi t c =
    c.or_first-in-Pi.ensures ∙ ap₂ or_first (c.first_asked-in-Pi.ensures ∙ ap first_asked c.get-in-Pi.ensures) (c.first_asked-in-Pi-2.ensures ∙ ap first_asked c.get-in-Pi-2.ensures)
    ∙ sym (asked_pi c.args.t.now _ c.in-Pi.a c.in-Pi.b c.in-Pi.is)
