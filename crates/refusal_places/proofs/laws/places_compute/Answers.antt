use Rattle.std.proofs.Common.{◌≡◌, ℕ, true, List, [], ◌∷◌, ◌++◌, Ok, refl, ap, sym, ◌∙◌, subst, codes, take}
use Rattle.std.proofs.lemmas.Bool.{false≢true}
use Rattle.term_syntax.specs.declared.surface.Surface.{Surface}
use Rattle.term_syntax.specs.declared.kind.Kind.TheVariants as k
use Rattle.term_syntax.specs.Lex.{Lexeme, token, lexemes}
use Rattle.term_syntax.specs.Kinds.{is_kind}
use Rattle.term_syntax.specs.Input.{Input}
use Rattle.term_syntax.specs.Reading.{read, finish, term, whole, abstraction, product, arrows, app, applied, atoms, atoms_from, atom, parenthesized, constant, arguments, arguments_from, binder, label_at, expect, eat, begins_atom}
use Rattle.term_syntax.specs.Grammar as grammar
use Rattle.term_syntax.specs.Grammar.{IsLabel, IsBinder, IsApp, IsAtom, IsTerm, level_of}
use Rattle.term_syntax.specs.declared.surface.Label.{Label}
use Rattle.term_syntax.proofs.Sound.{term_sound}
use Rattle.term_syntax.proofs.Complete.{app_begins}
use Rattle.refusal_places.specs.Places as places
use Rattle.refusal_places.specs.Places.{StandsAs, Begins}
use Rattle.refusal_places.proofs.Steps.{deepens}
use Rattle.refusal_places.proofs.Refused.{still_deep}
use Rattle.refusal_places.proofs.laws.places_compute.Goals as goal

-- tokens that are read as a term stand in the grammar
abbrev bare : List Lexeme → Input
bare ls = record { at = 0; end = 0; ahead = ls }

begins_by : (d : ℕ) (before standing others : List Lexeme) → StandsAs before standing → (t : Surface) (j : Input) → j.ahead ≡ [] → term d (bare (standing ++ others)) ≡ Ok (t, j) → Begins d before
begins_by d before standing others s t j over e = record { standing = standing; stands = s; others = others; tree = t; text = rw (← over) ((term_sound d).run (bare (standing ++ others)) t j e) }

no_label : {n : Lexeme} {x : Label} → n.kind ≡ k.Call → IsLabel n x → ⊥
no_label c (grammar.name e) = let clash = sym c ∙ e in cc clash
no_label c (grammar.level e) = let clash = sym c ∙ e in cc clash

no_open : {d : ℕ} {f : Lexeme} {ts rest : List Lexeme} {x : Label} {ty : Surface} → f.kind ≡ k.Fun → IsBinder d (f ∷ ts) x ty rest → ⊥
no_open e (grammar.binder o n c t z) = let clash = sym e ∙ o in cc clash

no_binder : {d : ℕ} {o n : Lexeme} {ts rest : List Lexeme} {x : Label} {ty : Surface} → n.kind ≡ k.Call → IsBinder d (o ∷ n ∷ ts) x ty rest → ⊥
no_binder c (grammar.binder o n z t y) = no_label c n

no_atom : {d : ℕ} {f : Lexeme} {ts rest : List Lexeme} {t : Surface} → f.kind ≡ k.Fun → IsApp d (f ∷ ts) t rest → ⊥
no_atom e h = false≢true (sym (ap begins_atom e) ∙ app_begins h)

no_call : {d : ℕ} {f o n : Lexeme} {ts rest : List Lexeme} {t : Surface} → f.kind ≡ k.Fun → n.kind ≡ k.Call → IsTerm d (f ∷ o ∷ n ∷ ts) t rest → ⊥
no_call e c (grammar.abstraction f b a m) = no_binder c b
no_call e c (grammar.product b a m) = no_open e b
no_call e c (grammar.arrow p h a m) = no_atom e h
no_call e c (grammar.application p h) = no_atom e h

pub returns-clause-ends_early : goal.returns-clause-ends_early
unfolding read finish term whole abstraction product arrows app applied atoms atoms_from atom parenthesized constant arguments arguments_from binder label_at level_of expect eat is_kind lexemes token
returns-clause-ends_early c = begins_by 3 _ (lexemes 0 (codes "(A -> ")) (lexemes 6 (codes "*)")) (places.same _) _ _ refl refl

pub returns-clause-closed_twice : goal.returns-clause-closed_twice
unfolding read finish term whole abstraction product arrows app applied atoms atoms_from atom parenthesized constant arguments arguments_from binder label_at level_of expect eat is_kind lexemes token
returns-clause-closed_twice c = (refl, begins_by 1 _ (lexemes 0 (codes "*")) [] (places.same _) _ _ refl refl)

pub returns-clause-call_for_a_name : goal.returns-clause-call_for_a_name
unfolding read finish term whole abstraction product arrows app applied atoms atoms_from atom parenthesized constant arguments arguments_from binder label_at level_of expect eat is_kind lexemes token
returns-clause-call_for_a_name c = (refl, begins_by 2 _ (lexemes 0 (codes "fun (x")) (lexemes 7 (codes ": *) => *")) (places.plain_name (take 2 (lexemes 0 (codes "fun (x("))) _ refl) _ _ refl refl)

pub returns-clause-only_as_a_plain_name : goal.returns-clause-only_as_a_plain_name
unfolding lexemes token
returns-clause-only_as_a_plain_name c d others t h = no_call refl refl h

-- where no term may stand inside
no_inside : {o : Lexeme} {ts rest : List Lexeme} {x : Label} {ty : Surface} → IsBinder 0 (o ∷ ts) x ty rest → ⊥
no_inside (grammar.binder o n c t z) = elim t [ ]

no_parentheses : {o : Lexeme} {ts rest : List Lexeme} {t : Surface} → o.kind ≡ k.Open → IsAtom 0 (o ∷ ts) t rest → ⊥
no_parentheses e (grammar.star h) = let clash = sym e ∙ h in cc clash
no_parentheses e (grammar.wild h) = let clash = sym e ∙ h in cc clash
no_parentheses e (grammar.asked h) = let clash = sym e ∙ h in cc clash
no_parentheses e (grammar.named (grammar.name h)) = let clash = sym e ∙ h in cc clash
no_parentheses e (grammar.named (grammar.level h)) = let clash = sym e ∙ h in cc clash
no_parentheses e (grammar.parentheses h t z) = elim t [ ]
no_parentheses e (grammar.bare h o z) = let clash = sym e ∙ h in cc clash
no_parentheses e (grammar.constant h o a z) = let clash = sym e ∙ h in cc clash

no_app : {o : Lexeme} {ts rest : List Lexeme} {t : Surface} → o.kind ≡ k.Open → IsApp 0 (o ∷ ts) t rest → ⊥
no_app e (grammar.alone h) = no_parentheses e h
no_app e (grammar.spine h more) = no_parentheses e h

no_binder_at : (ts : List Lexeme) {rest : List Lexeme} {x : Label} {ty : Surface} → IsBinder 0 ts x ty rest → ⊥
no_binder_at [] b = elim b [ ]
no_binder_at (o ∷ ts) b = no_inside b

none_open : {o : Lexeme} {ts rest : List Lexeme} {t : Surface} → o.kind ≡ k.Open → IsTerm 1 (o ∷ ts) t rest → ⊥
none_open e (grammar.abstraction f b a m) = let clash = sym e ∙ f in cc clash
none_open e (grammar.product b a m) = no_inside b
none_open e (grammar.arrow p h a m) = no_app e h
none_open e (grammar.application p h) = no_app e h

none_fun : {f : Lexeme} {ts rest : List Lexeme} {t : Surface} → f.kind ≡ k.Fun → IsTerm 1 (f ∷ ts) t rest → ⊥
none_fun e (grammar.abstraction {ts = ts} f b a m) = no_binder_at ts b
none_fun e (grammar.product b a m) = no_inside b
none_fun e (grammar.arrow p h a m) = no_atom e h
none_fun e (grammar.application p h) = no_atom e h

none_begins : (l : Lexeme) → deepens l.kind ≡ true → ((ts rest : List Lexeme) (t : Surface) → IsTerm 1 (l ∷ ts) t rest → ⊥) → Begins 1 (l ∷ []) → ⊥
none_begins l deep none b =
    let x = still_deep b.stands [] l [] refl deep in
    none (x.0 ++ b.others) [] b.tree (subst (λ ls. IsTerm 1 (ls ++ b.others) b.tree []) x.1 b.text)

pub returns-clause-too_deep : goal.returns-clause-too_deep
unfolding read finish term whole abstraction product arrows app applied atoms atoms_from atom parenthesized constant arguments arguments_from binder label_at level_of expect eat is_kind lexemes token
returns-clause-too_deep c = (begins_by 2 _ (lexemes 0 (codes "(")) (lexemes 1 (codes "*)")) (places.same _) _ _ refl refl, none_begins _ refl (λ ts rest t h. none_open refl h))

pub returns-clause-too_deep_behind_fun : goal.returns-clause-too_deep_behind_fun
unfolding read finish term whole abstraction product arrows app applied atoms atoms_from atom parenthesized constant arguments arguments_from binder label_at level_of expect eat is_kind lexemes token
returns-clause-too_deep_behind_fun c = (begins_by 2 _ (lexemes 0 (codes "fun")) (lexemes 3 (codes " (x : *) => *")) (places.same _) _ _ refl refl, none_begins _ refl (λ ts rest t h. none_fun refl h))
