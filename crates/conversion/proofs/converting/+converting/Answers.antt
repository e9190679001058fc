use Rattle.std.proofs.Common.{rules, arith, ◌≡◌, ◌≢◌, ap, ◌∙◌, sym, true, false, Bool, Err, [], ◌∷◌, ◌++◌}
use Rattle.ld_terms.proofs.Turns.{keeps_both}
use Rattle.conversion.specs.Answers.{IsAnswer}
use Rattle.conversion.specs.Conversion.{conv, convert_each}
use Rattle.conversion.specs.Globals.{env_of}
use Rattle.conversion.specs.Runs.{Gave}
use Rattle.conversion.specs.Spines.{BothHeld, pairs_back, by_forms, by_parts, by_twins}
use Rattle.conversion.specs.WeakHead.{whnf}
use Rattle.conversion.proofs.Cases.{conv_same, conv_none, conv_twins_fuel, conv_twins_yes, conv_forms, forms_second, forms_both, each_first, each_fuel, each_turn, answer_is, passed_on, not_same, are_same, two_kept}
use Rattle.conversion.proofs.Lookups.{env_kept}
use Rattle.conversion.proofs.Spines.{all_popped}
use Rattle.conversion.proofs.converting.+converting.Goals as goal

pub conv-returns-then-same-clause-value : goal.conv-returns-then-same-clause-value
conv-returns-then-same-clause-value g t c =
    let means = g.T.Terms.means c.args.terms.now in
    let Δ = env_of means (g.G.Globals.items c.args.globals.now) (g.G.Globals.metas c.args.globals.now) in
    conv_same Δ (means c.args.a) (means c.args.b) c.args.fuel.now (are_same (means c.args.a) (means c.args.b) (c.same.ensures.0 c.if-same.true))

pub conv-returns-then-not-spend-clause-value : goal.conv-returns-then-not-spend-clause-value
conv-returns-then-not-spend-clause-value g t c =
    let means = g.T.Terms.means c.args.terms.now in
    let Δ = env_of means (g.G.Globals.items c.args.globals.now) (g.G.Globals.metas c.args.globals.now) in
    let differ : means c.args.a ≢ means c.args.b = λ s. let e = c.same.ensures.1 s in let f = c.if-same.false in cc in
    let none : c.args.fuel.now ≡ 0 = search (rules, arith) in
    let rest : c.spend.new.self ≡ 0 = omega (arith, none, c.spend.ensures.rest) in
    (ap (conv Δ (means c.args.a) (means c.args.b)) none ∙ conv_none Δ (means c.args.a) (means c.args.b) (not_same (means c.args.a) (means c.args.b) differ), rest)

pub conv-returns-in_err-conv_twins-clause-value : goal.conv-returns-in_err-conv_twins-clause-value
conv-returns-in_err-conv_twins-clause-value g t c =
    let means = g.T.Terms.means c.args.terms.now in
    let Δ = env_of means (g.G.Globals.items c.args.globals.now) (g.G.Globals.metas c.args.globals.now) in
    let A = means c.args.a in
    let B = means c.args.b in
    let n = c.args.fuel.now in
    let differ : A ≢ B = λ s. let e = c.same.ensures.1 s in let f = c.if-same.false in cc in
    let some : n ≢ 0 = search (rules, arith) in
    let value : IsAnswer {A = Bool} {B = Bool} (λ equal. equal) (by_twins Δ A B c.spend.new.self) c.conv_twins.new.fuel (Err c.in_err-conv_twins.field-0.0) = c.in_err-conv_twins.ensures.value in
    let passed : IsAnswer {A = Bool} {B = Bool} (λ equal. equal) (conv Δ A B n) c.conv_twins.new.fuel (Err c.in_err-conv_twins.field-0.0) =
    passed_on (λ equal. equal) (λ equal. equal) (by_twins Δ A B c.spend.new.self) (conv Δ A B n) c.conv_twins.new.fuel c.in_err-conv_twins.field-0.0
    (conv_twins_fuel Δ A B n c.spend.new.self (not_same A B differ) some c.spend.ensures.rest) value in
    let result : c.from_residual.result ≡ Err c.in_err-conv_twins.field-0.0 = search rules in
    rw result passed

pub conv-returns-then-branch-clause-value : goal.conv-returns-then-branch-clause-value
conv-returns-then-branch-clause-value g t c =
    let means = g.T.Terms.means c.args.terms.now in
    let Δ = env_of means (g.G.Globals.items c.args.globals.now) (g.G.Globals.metas c.args.globals.now) in
    let A = means c.args.a in
    let B = means c.args.b in
    let n = c.args.fuel.now in
    let differ : A ≢ B = λ s. let e = c.same.ensures.1 s in let f = c.if-same.false in cc in
    let some : n ≢ 0 = search (rules, arith) in
    let value : by_twins Δ A B c.spend.new.self ≡ Gave c.in_ok-conv_twins.field-0 c.conv_twins.new.fuel = c.in_ok-conv_twins.ensures.value in
    conv_twins_yes Δ A B n c.spend.new.self c.conv_twins.new.fuel (not_same A B differ) some c.spend.ensures.rest (value ∙ ap (λ b. Gave b c.conv_twins.new.fuel) c.if-branch.true)

pub conv-returns-clause-value : goal.conv-returns-clause-value
conv-returns-clause-value g t c =
    let holds = g.T.Terms.holds in
    let means = g.T.Terms.means in
    let old = c.args.terms.now in
    let new = c.conv_twins.new.terms in
    let is = g.G.Globals.items c.args.globals.now in
    let ds = g.G.Globals.metas c.args.globals.now in
    let Δ = env_of (means old) is ds in
    let A = means old c.args.a in
    let B = means old c.args.b in
    let n = c.args.fuel.now in
    let k = c.conv_twins.new.fuel in
    let differ : A ≢ B = λ s. let e = c.same.ensures.1 s in let f = c.if-same.false in cc in
    let some : n ≢ 0 = search (rules, arith) in
    let value : by_twins Δ A B c.spend.new.self ≡ Gave c.in_ok-conv_twins.field-0 k = c.in_ok-conv_twins.ensures.value in
    answer_is (λ equal. equal) (conv Δ A B n) (by_forms (env_of (means new) is ds) (means new c.args.a) (means new c.args.b) k) c.conv_forms.new.fuel c.conv_forms.result
    (conv_forms Δ A B n c.spend.new.self k (not_same A B differ) some c.spend.ensures.rest (value ∙ ap (λ b. Gave b k) c.if-branch.false)
    ∙ sym (two_kept (λ Γ x y. by_forms Γ x y k) (holds old) (means old) (holds new) (means new) is ds c.args.a c.args.b c.in_ok-conv_twins.ensures.kept c.requires.globals c.requires.left c.requires.right))
    c.conv_forms.ensures.value

pub conv_each-returns-in_err-conv-clause-value : goal.conv_each-returns-in_err-conv-clause-value
conv_each-returns-in_err-conv-clause-value g t c =
    let holds = g.T.Terms.holds in
    let means = g.T.Terms.means in
    let old = c.args.terms.now in
    let before = c.loop-pair.terms in
    let is = g.G.Globals.items c.args.globals.now in
    let ds = g.G.Globals.metas c.args.globals.now in
    let C = conv (env_of (means old) is ds) in
    let a = c.in-Some.pair.0 in
    let b = c.in-Some.pair.1 in
    let rest = c.pop.new.self.items in
    let n = c.loop-pair.fuel in
    let whole = convert_each C (pairs_back (means old) c.args.pairs.items) c.args.fuel.now in
    let items : c.loop-pair.pairs.items ≡ rest ++ (a, b) ∷ [] = c.in-Some.ensures.items in
    let held = all_popped (BothHeld (holds old)) c.loop-pair.pairs.items rest (a, b) items c.loop-pair.invariant.2 in
    let turn = each_turn (means old) C whole a b c.loop-pair.pairs.items rest n c.loop-pair.invariant.0 items in
    let same = two_kept (λ Γ x y. conv Γ x y n) (holds old) (means old) (holds before) (means before) is ds a b c.loop-pair.invariant.3 c.requires.globals held.1.0 held.1.1 in
    let value : IsAnswer {A = Bool} {B = Bool} (λ equal. equal) (conv (env_of (means before) is ds) (means before a) (means before b) n) c.conv.new.fuel (Err c.in_err-conv.field-0.0) = c.in_err-conv.ensures.value in
    let passed : IsAnswer {A = Bool} {B = Bool} (λ equal. equal) whole c.conv.new.fuel (Err c.in_err-conv.field-0.0) =
    passed_on (λ equal. equal) (λ equal. equal) (conv (env_of (means before) is ds) (means before a) (means before b) n) whole c.conv.new.fuel c.in_err-conv.field-0.0
    (λ e. turn ∙ each_fuel C (means old a) (means old b) (pairs_back (means old) rest) n (sym same ∙ e)) value in
    let result : c.from_residual.result ≡ Err c.in_err-conv.field-0.0 = search rules in
    rw result passed

pub conv_each-returns-then-not-branch-clause-value : goal.conv_each-returns-then-not-branch-clause-value
conv_each-returns-then-not-branch-clause-value g t c =
    let holds = g.T.Terms.holds in
    let means = g.T.Terms.means in
    let old = c.args.terms.now in
    let before = c.loop-pair.terms in
    let is = g.G.Globals.items c.args.globals.now in
    let ds = g.G.Globals.metas c.args.globals.now in
    let C = conv (env_of (means old) is ds) in
    let a = c.in-Some.pair.0 in
    let b = c.in-Some.pair.1 in
    let rest = c.pop.new.self.items in
    let n = c.loop-pair.fuel in
    let whole = convert_each C (pairs_back (means old) c.args.pairs.items) c.args.fuel.now in
    let items : c.loop-pair.pairs.items ≡ rest ++ (a, b) ∷ [] = c.in-Some.ensures.items in
    let held = all_popped (BothHeld (holds old)) c.loop-pair.pairs.items rest (a, b) items c.loop-pair.invariant.2 in
    let turn = each_turn (means old) C whole a b c.loop-pair.pairs.items rest n c.loop-pair.invariant.0 items in
    let same = two_kept (λ Γ x y. conv Γ x y n) (holds old) (means old) (holds before) (means before) is ds a b c.loop-pair.invariant.3 c.requires.globals held.1.0 held.1.1 in
    let value : conv (env_of (means before) is ds) (means before a) (means before b) n ≡ Gave c.in_ok-conv.field-0 c.conv.new.fuel = c.in_ok-conv.ensures.value in
    let no : c.in_ok-conv.field-0 ≡ false = search rules in
    turn ∙ each_first C (means old a) (means old b) (pairs_back (means old) rest) n c.conv.new.fuel false (sym same ∙ value ∙ ap (λ x. Gave x c.conv.new.fuel) no)

pub conv_each-loop-pair-preserved : goal.conv_each-loop-pair-preserved
conv_each-loop-pair-preserved g t c =
    let holds = g.T.Terms.holds in
    let means = g.T.Terms.means in
    let old = c.args.terms.now in
    let before = c.loop-pair.terms in
    let after = c.conv.new.terms in
    let is = g.G.Globals.items c.args.globals.now in
    let ds = g.G.Globals.metas c.args.globals.now in
    let C = conv (env_of (means old) is ds) in
    let a = c.in-Some.pair.0 in
    let b = c.in-Some.pair.1 in
    let rest = c.pop.new.self.items in
    let n = c.loop-pair.fuel in
    let whole = convert_each C (pairs_back (means old) c.args.pairs.items) c.args.fuel.now in
    let items : c.loop-pair.pairs.items ≡ rest ++ (a, b) ∷ [] = c.in-Some.ensures.items in
    let held = all_popped (BothHeld (holds old)) c.loop-pair.pairs.items rest (a, b) items c.loop-pair.invariant.2 in
    let turn = each_turn (means old) C whole a b c.loop-pair.pairs.items rest n c.loop-pair.invariant.0 items in
    let same = two_kept (λ Γ x y. conv Γ x y n) (holds old) (means old) (holds before) (means before) is ds a b c.loop-pair.invariant.3 c.requires.globals held.1.0 held.1.1 in
    let value : conv (env_of (means before) is ds) (means before a) (means before b) n ≡ Gave c.in_ok-conv.field-0 c.conv.new.fuel = c.in_ok-conv.ensures.value in
    let yes' : c.in_ok-conv.field-0 ≡ true = search rules in (
      turn ∙ each_first C (means old a) (means old b) (pairs_back (means old) rest) n c.conv.new.fuel true (sym same ∙ value ∙ ap (λ x. Gave x c.conv.new.fuel) yes'),
      omega (arith, c.in_ok-conv.ensures.less, c.loop-pair.invariant.1),
      held.0,
      keeps_both (holds old) (means old) (holds before) (means before) (holds after) (means after) c.loop-pair.invariant.3 c.in_ok-conv.ensures.kept,
    )

pub conv_forms-returns-in_err-b_form-clause-value : goal.conv_forms-returns-in_err-b_form-clause-value
conv_forms-returns-in_err-b_form-clause-value g t c =
    let holds = g.T.Terms.holds in
    let means = g.T.Terms.means in
    let old = c.args.terms.now in
    let one = c.whnf.new.terms in
    let is = g.G.Globals.items c.args.globals.now in
    let ds = g.G.Globals.metas c.args.globals.now in
    let Δ = env_of (means old) is ds in
    let A = means old c.args.a in
    let B = means old c.args.b in
    let n = c.args.fuel.now in
    let k = c.whnf.new.fuel in
    let first : whnf Δ A n ≡ Gave (means one c.in_ok-a_form.a_form) k = c.in_ok-a_form.ensures.value in
    let same = two_kept (λ Γ x y. whnf Γ y k) (holds old) (means old) (holds one) (means one) is ds c.args.a c.args.b c.in_ok-a_form.ensures.kept c.requires.globals c.requires.left c.requires.right in
    let passed : IsAnswer {A = Bool} {B = Bool} (λ equal. equal) (by_forms Δ A B n) c.whnf-2.new.fuel (Err c.in_err-b_form.field-0.0) =
    passed_on (means c.whnf-2.new.terms) (λ equal. equal) (whnf (env_of (means one) is ds) (means one c.args.b) k) (by_forms Δ A B n) c.whnf-2.new.fuel c.in_err-b_form.field-0.0
    (λ e. forms_second Δ A B (means one c.in_ok-a_form.a_form) n k first (sym same ∙ e)) c.in_err-b_form.ensures.value in
    let result : c.from_residual-in_err-b_form.result ≡ Err c.in_err-b_form.field-0.0 = search rules in
    rw result passed

pub conv_forms-returns-clause-value : goal.conv_forms-returns-clause-value
conv_forms-returns-clause-value g t c =
    let holds = g.T.Terms.holds in
    let means = g.T.Terms.means in
    let old = c.args.terms.now in
    let one = c.whnf.new.terms in
    let two = c.whnf-2.new.terms in
    let is = g.G.Globals.items c.args.globals.now in
    let ds = g.G.Globals.metas c.args.globals.now in
    let Δ = env_of (means old) is ds in
    let A = means old c.args.a in
    let B = means old c.args.b in
    let n = c.args.fuel.now in
    let k = c.whnf.new.fuel in
    let j = c.whnf-2.new.fuel in
    let a = c.in_ok-a_form.a_form in
    let b = c.in_ok-b_form.b_form in
    let first : whnf Δ A n ≡ Gave (means one a) k = c.in_ok-a_form.ensures.value in
    let same = two_kept (λ Γ x y. whnf Γ y k) (holds old) (means old) (holds one) (means one) is ds c.args.a c.args.b c.in_ok-a_form.ensures.kept c.requires.globals c.requires.left c.requires.right in
    let second : whnf (env_of (means one) is ds) (means one c.args.b) k ≡ Gave (means two b) j = c.in_ok-b_form.ensures.value in
    let kept = keeps_both (holds old) (means old) (holds one) (means one) (holds two) (means two) c.in_ok-a_form.ensures.kept c.in_ok-b_form.ensures.kept in
    answer_is (λ equal. equal) (by_forms Δ A B n) (by_parts (env_of (means two) is ds) (means two a) (means two b) j) c.conv_parts.new.fuel c.conv_parts.result
    (forms_both Δ A B (means one a) (means two b) n k j first (sym same ∙ second)
    ∙ ap (λ x. by_parts Δ x (means two b) j) (sym (c.in_ok-b_form.ensures.kept a c.in_ok-a_form.ensures.held).1)
    ∙ ap (λ Γ. by_parts Γ (means two a) (means two b) j) (sym (env_kept (holds old) (means old) (holds two) (means two) kept is ds c.requires.globals)))
    c.conv_parts.ensures.value
