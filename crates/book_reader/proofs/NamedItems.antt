-- The names of a book's items are names of the texts.
use Rattle.std.proofs.Common.{◌≡◌, inl, inr, List, [], ◌∷◌, ◌++◌, All, refl, ap, ◌∙◌, arith, subst}
use Rattle.std.proofs.lemmas.List.Elements.{All-cons, All-nil, All-tail}
use Rattle.ld_terms.specs.Names.{IsTextName}
use Rattle.term_syntax.specs.declared.kind.Kind.TheVariants as k
use Rattle.term_syntax.specs.declared.surface.Label.{Label}
use Rattle.term_syntax.specs.declared.surface.Surface.{Surface}
use Rattle.term_syntax.specs.Kinds.{is_kind}
use Rattle.term_syntax.specs.Lex.{Lexeme}
use Rattle.term_syntax.specs.Input.{Input}
use Rattle.term_syntax.specs.Grammar as terms
use Rattle.term_syntax.specs.Grammar.{IsLabel, IsTerm, IsBinder}
use Rattle.term_syntax.proofs.Complete.{Follows, follows_kind, term_runs}
use Rattle.term_syntax.proofs.Walks.{term_ends}
use Rattle.book_reader.specs.declared.source.Parameter.{Parameter}
use Rattle.book_reader.specs.declared.source.Source.{Source}
use Rattle.book_reader.specs.Grammar as grammar
use Rattle.book_reader.specs.Grammar.{IsItemName, name_of_label, parameter_of, AreParameters, IsItem, AreItems}
use Rattle.book_reader.specs.Named.{IsNamed, HasNames}
use Rattle.term_syntax.proofs.NamedTokens.{IsNamedToken}

record AreNamed (ts : List Lexeme) : Type 0 where
  each : All IsNamedToken ts

first_named : {l : Lexeme} {ts : List Lexeme} → AreNamed (l ∷ ts) → IsNamedToken l
first_named {l = l} h = h.each 0 l (omega arith)

others_named : {l : Lexeme} {ts : List Lexeme} → AreNamed (l ∷ ts) → AreNamed ts
others_named {l = l} {ts = ts} h = record { each = All-tail IsNamedToken l ts h.each }

behind_named : (taken rest : List Lexeme) → AreNamed (taken ++ rest) → AreNamed rest
behind_named [] rest h = h
behind_named (l ∷ taken) rest h = behind_named taken rest (others_named h)

-- the tokens behind a term
term_leaves : {ts rest : List Lexeme} {t : Surface} → IsTerm 512 ts t rest → Follows rest → AreNamed ts → AreNamed rest
term_leaves {ts = ts} {rest = rest} {t = t} is f h =
    let i : Input = record { at = 0; end = 0; ahead = ts } in
    let x = (term_runs is f).run i refl in
    let w = (term_ends 512 i).ok t x.0 x.1 in
    behind_named w.taken rest (subst AreNamed (w.ahead ∙ ap (λ ls. w.taken ++ ls) x.2) h)

behind_term : {l : Lexeme} {ts rest : List Lexeme} {t : Surface} → IsTerm 512 ts t (l ∷ rest) → Follows (l ∷ rest) → AreNamed ts → AreNamed rest
behind_term is f h = others_named (term_leaves is f h)

pub close_follows : (l : Lexeme) (rest : List Lexeme) → l.kind ≡ k.Close → Follows (l ∷ rest)
unfolding is_kind
close_follows l rest e = follows_kind l rest k.Close e refl refl

pub colon_follows : (l : Lexeme) (rest : List Lexeme) → l.kind ≡ k.Colon → Follows (l ∷ rest)
unfolding is_kind
colon_follows l rest e = follows_kind l rest k.Colon e refl refl

pub semi_follows : (l : Lexeme) (rest : List Lexeme) → l.kind ≡ k.Semi → Follows (l ∷ rest)
unfolding is_kind
semi_follows l rest e = follows_kind l rest k.Semi e refl refl

label_named : {l : Lexeme} {x : Label} → IsLabel l x → IsNamedToken l → IsNamed (name_of_label x)
label_named (terms.name e) h = h (rw e tt)
label_named (terms.level e) h = tt

binder_named : {ts rest : List Lexeme} {x : Label} {A : Surface} → IsBinder 512 ts x A rest → AreNamed ts → IsNamed (name_of_label x) × AreNamed rest
binder_named (terms.binder {e = e} {rest = rest} ko is kc t ke) h =
    (label_named is (first_named (others_named h)), behind_term t (close_follows e rest ke) (others_named (others_named (others_named h))))

parameters_named : {ts rest : List Lexeme} {ps : List Parameter} → AreParameters ts ps rest → AreNamed ts → All (λ p. IsNamed p.name) ps × AreNamed rest
parameters_named grammar.no_parameter h = (All-nil (λ (p : Parameter). IsNamed p.name), h)
parameters_named (grammar.more_parameters {x = label} {A = A} {ps = ps} b more) h =
    let x = binder_named b h in
    let y = parameters_named more x.1 in
    (All-cons (λ (p : Parameter). IsNamed p.name) (parameter_of label A) ps x.0 y.0, y.1)

name_named : (l : Lexeme) → IsItemName l → IsNamedToken l → IsTextName l.text
name_named l (inl e) h = h (rw e tt)
name_named l (inr e) h = h (rw e tt)

item_named : {ts rest : List Lexeme} {s : Source} → IsItem ts s rest → AreNamed ts → HasNames s × AreNamed rest
item_named (grammar.definition {n = n} {c = c} {e = e} {vs = vs} {rest = rest} kd kn are ka is kc of ke) h =
    let x = parameters_named are (others_named (others_named h)) in (
      record { item = name_named n kn (first_named (others_named h)); params = x.0 },
      behind_term of (semi_follows e rest ke) (behind_term is (colon_follows c vs kc) (others_named x.1)),
    )
item_named (grammar.primitive {n = n} {e = e} {rest = rest} kd kn are kc of ke) h =
    let x = parameters_named are (others_named (others_named h)) in (
      record { item = name_named n kn (first_named (others_named h)); params = x.0 },
      behind_term of (semi_follows e rest ke) (others_named x.1),
    )

items_are_named : {ts : List Lexeme} {ss : List Source} → AreItems ts ss → AreNamed ts → All HasNames ss
items_are_named grammar.no_item h = All-nil HasNames
items_are_named (grammar.more_items {s = s} {ss = ss} is more) h = let x = item_named is h in All-cons HasNames s ss x.0 (items_are_named more x.1)

pub items_named : {ts : List Lexeme} {ss : List Source} → AreItems ts ss → All IsNamedToken ts → All HasNames ss
items_named are h = items_are_named are (record { each = h })
