-- What is read is in the grammar.
use Rattle.std.proofs.Common.{◌≡◌, ℕ, zero, suc, inl, inr, List, [], ◌∷◌, ◌++◌, length, Ok, Some, None, refl, sym, ◌∙◌, append_assoc, subst}
use Rattle.std.proofs.lemmas.List.{append-nil}
use Rattle.term_syntax.specs.declared.kind.Kind.{Kind}
use Rattle.term_syntax.specs.declared.kind.Kind.TheVariants as k
use Rattle.term_syntax.specs.declared.surface.Label.{Label}
use Rattle.term_syntax.specs.declared.surface.Surface.{Surface}
use Rattle.term_syntax.specs.Kinds.{is_kind}
use Rattle.term_syntax.specs.Lex.{Text, Lexeme, lexemes}
use Rattle.term_syntax.specs.Input.{Input, kind, spelling, next, input_at}
use Rattle.term_syntax.specs.Reading.{term}
use Rattle.term_syntax.specs.Grammar.{IsBinder, max_nesting}
use Rattle.term_syntax.proofs.Progress.{ok_inj}
use Rattle.term_syntax.proofs.Sound.{takes, Means, then_means, pure_means, expect_means, peek_means, refuse_means, over_means, weaken, done, closes, binder_sound, term_sound}
use Rattle.book_reader.specs.declared.source.Parameter.{Parameter}
use Rattle.book_reader.specs.declared.source.Source.{Source}
use Rattle.book_reader.specs.Grammar as grammar
use Rattle.book_reader.specs.Grammar.{IsItemName, parameter_of, AreParameters, IsItem, AreItems, IsBookText}
use Rattle.book_reader.specs.Reading.{name_by, item_name, parameter, parameters_from, parameters, definition, primitive, item, items_from, items, read}

-- an item's name was taken
abbrev TookName : Input → Text → Input → Type 0
TookName i x j = (n : Lexeme) × IsItemName n × (x ≡ n.text) × (i.ahead ≡ n ∷ j.ahead)

name_by_sound : (t : Kind) (i : Input) (x : Text) (j : Input) → kind i ≡ t → name_by t i ≡ Ok (x, j) → TookName i x j
name_by_sound k.Name i x j is e =
    let got = takes i k.Name (λ h. cc) is in
    done (TookName i) (spelling i) (next i) x j (ok_inj (spelling i, next i) (x, j) e) (got.0, inl got.1.kind, got.1.text, got.1.ahead)
name_by_sound k.Call i x j is e =
    let got = takes i k.Call (λ h. cc) is in
    done (TookName i) (spelling i) (next i) x j (ok_inj (spelling i, next i) (x, j) e) (got.0, inr got.1.kind, got.1.text, got.1.ahead)
name_by_sound _ i x j is e = cc

name_means : Means item_name TookName
unfolding item_name
name_means = record { run = λ i x j e. name_by_sound (kind i) i x j refl e }

-- ---- parameters

abbrev IsParameter : Input → Parameter → Input → Type 0
IsParameter i p j = (x : Label) × (A : Surface) × IsBinder max_nesting i.ahead x A j.ahead × (p ≡ parameter_of x A)

parameter_means : Means parameter IsParameter
unfolding parameter
parameter_means = weaken _ (then_means (binder_sound 512 (term 512) (term_sound 512)) (λ b. pure_means (parameter_of b.0 b.1)))
    (λ i p j (b, i1, is, same). done (IsParameter i) (parameter_of b.0 b.1) i1 p j same (b.0, b.1, is, refl))

-- parameters behind those that were found
abbrev ParametersOn : List Parameter → List Lexeme → List Parameter → List Lexeme → Type 0
ParametersOn found ts ps rest = (more : List Parameter) × (ps ≡ found ++ more) × AreParameters ts more rest

no_more : (found : List Parameter) (ts : List Lexeme) → ParametersOn found ts found ts
no_more found ts = ([], sym (append-nil found), grammar.no_parameter)

one_more : (found : List Parameter) (i : Input) (p : Parameter) (j : Input) (ps : List Parameter) (rest : List Lexeme) → IsParameter i p j → ParametersOn (found ++ p ∷ []) j.ahead ps rest → ParametersOn found i.ahead ps rest
one_more found i p j ps rest (x, A, is, e) (more, same, on) =
    (p ∷ more, same ∙ append_assoc found (p ∷ []) more, subst (λ (p : Parameter). AreParameters i.ahead (p ∷ more) rest) (sym e) (grammar.more_parameters is on))

parameters_from_means : (n : ℕ) (found : List Parameter) → Means (parameters_from n found) (λ i ps j. ParametersOn found i.ahead ps j.ahead)
unfolding parameters_from
parameters_from_means zero found = weaken _ (pure_means found) (λ i ps j same. done (λ ps j. ParametersOn found i.ahead ps j.ahead) found i ps j same (no_more found i.ahead))
parameters_from_means (suc n) found = weaken _
    (peek_means (λ kind. is_kind kind k.Open) (then_means parameter_means (λ p. parameters_from_means n (found ++ p ∷ []))) (pure_means found))
    (λ i ps j h. elim h [
      | inl (_, (p, i1, is, on)) ↦ one_more found i p i1 ps j.ahead is on
      | inr (_, same) ↦ done (λ ps j. ParametersOn found i.ahead ps j.ahead) found i ps j same (no_more found i.ahead)
    ])

parameters_means : Means parameters (λ i ps j. AreParameters i.ahead ps j.ahead)
unfolding parameters
parameters_means = record {
  run = λ i ps j e.
      let x = (parameters_from_means (suc (length i.ahead)) []).run i ps j e in
      subst (λ (ps : List Parameter). AreParameters i.ahead ps j.ahead) (sym x.1) x.2;
}

-- ---- items

parameters_at : {ts us vs : List Lexeme} {ps : List Parameter} → us ≡ vs → AreParameters ts ps us → AreParameters ts ps vs
parameters_at {ts = ts} {ps = ps} e h = subst (λ ls. AreParameters ts ps ls) e h

definition_means : Means definition (λ i s j. IsItem i.ahead s j.ahead)
unfolding definition
definition_means = weaken _
    (then_means (expect_means k.Def (λ h. cc)) (λ _. then_means name_means (λ name. then_means parameters_means (λ ps. then_means (expect_means k.Assign (λ h. cc)) (λ _. then_means (term_sound 512) (λ M.
    then_means (expect_means k.Colon (λ h. cc)) (λ _. then_means (term_sound 512) (λ A. then_means (expect_means k.Semi (λ h. cc)) (λ _. pure_means (record { name = name; params = ps; ty = A; body = Some M }))))))))))
    (λ i s j (_, i1, (d, td), (name, i2, (n, kn, en, an), (ps, i3, are, (_, i4, (a, ta), (M, i5, is, (_, i6, (c, tc), (A, i7, of, (_, i8, (e, te), same)))))))).
    done (λ s j. IsItem i.ahead s j.ahead) (record { name = name; params = ps; ty = A; body = Some M }) i8 s j same
    (rw (td.ahead, an, en) (grammar.definition td.kind kn (parameters_at ta.ahead are) ta.kind (closes tc.ahead is) tc.kind (closes te.ahead of) te.kind)))

primitive_means : Means primitive (λ i s j. IsItem i.ahead s j.ahead)
unfolding primitive
primitive_means = weaken _
    (then_means (expect_means k.Prim (λ h. cc)) (λ _. then_means name_means (λ name. then_means parameters_means (λ ps. then_means (expect_means k.Colon (λ h. cc)) (λ _. then_means (term_sound 512) (λ A.
    then_means (expect_means k.Semi (λ h. cc)) (λ _. pure_means (record { name = name; params = ps; ty = A; body = None }))))))))
    (λ i s j (_, i1, (d, td), (name, i2, (n, kn, en, an), (ps, i3, are, (_, i4, (c, tc), (A, i5, of, (_, i6, (e, te), same)))))).
    done (λ s j. IsItem i.ahead s j.ahead) (record { name = name; params = ps; ty = A; body = None }) i6 s j same
    (rw (td.ahead, an, en) (grammar.primitive td.kind kn (parameters_at tc.ahead are) tc.kind (closes te.ahead of) te.kind)))

item_means : Means item (λ i s j. IsItem i.ahead s j.ahead)
unfolding item
item_means = weaken _ (peek_means (λ kind. is_kind kind k.Def) definition_means primitive_means) (λ i s j h. elim h [ inl (_, is) ↦ is | inr (_, is) ↦ is ])

-- items behind those that were found, up to the end
abbrev ItemsOn : List Source → List Lexeme → List Source → Type 0
ItemsOn found ts ss = (more : List Source) × (ss ≡ found ++ more) × AreItems ts more

no_more_items : (found : List Source) (ts : List Lexeme) → ts ≡ [] → ItemsOn found ts found
no_more_items found ts e = ([], sym (append-nil found), subst (λ ts. AreItems ts []) (sym e) grammar.no_item)

items_from_means : (n : ℕ) (found : List Source) → Means (items_from n found) (λ i ss j. ItemsOn found i.ahead ss)
unfolding items_from
items_from_means zero found = refuse_means
items_from_means (suc n) found = weaken _
    (over_means (pure_means found) (then_means item_means (λ s. items_from_means n (found ++ s ∷ []))))
    (λ i ss j h. elim h [
      | inl (none, same) ↦ done (λ ss j. ItemsOn found i.ahead ss) found i ss j same (no_more_items found i.ahead none)
      | inr (s, i1, is, (more, e, are)) ↦ (s ∷ more, e ∙ append_assoc found (s ∷ []) more, grammar.more_items is are)
    ])

pub read_sound : (text : Text) (ss : List Source) (j : Input) → read text ≡ Ok (ss, j) → IsBookText text ss
unfolding read items
read_sound text ss j e =
    let x = (items_from_means (suc (length (lexemes 0 text))) []).run (input_at text 0) ss j e in
    subst (λ (ss : List Source). AreItems (lexemes 0 text) ss) (sym x.1) x.2
