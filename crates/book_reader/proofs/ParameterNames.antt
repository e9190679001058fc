-- The names of parameters, one more at a time.
use Rattle.std.proofs.Common.{◌≡◌, ℕ, ◌+◌, ◌<◌, List, [], ◌∷◌, ◌++◌, length, Option, Some, None, inl, inr, refl, sym, ap, ◌∙◌, arith, subst}
use Rattle.std.proofs.lemmas.List.{map-append, length-append, length-map}
use Rattle.ld_terms.specs.Names.{IsEntryName}
use Rattle.ld_terms.specs.declared.globals.Local.{Local}
use Rattle.term_syntax.specs.Lex.{Text}
use Rattle.term_syntax.specs.Printing.{Names}
use Rattle.term_syntax.specs.ReadsBack.{NamedFrom, IsContext}
use Rattle.meta_context.specs.Entered.{names_of}
use Rattle.book_reader.specs.Items.{entry_name}
use Rattle.book_reader.specs.Named.{IsNamed}

named_more : (k n : ℕ) (names : Names) (name : Text) → NamedFrom k names → n ≡ k + length names → IsEntryName n name → NamedFrom k (names ++ name ∷ [])
named_more k n [] name h e is = let same : n ≡ k = omega (arith, e) in (subst (λ n. IsEntryName n name) same is, tt)
named_more k n (x ∷ names) name h e is = (h.0, named_more (k + 1) n names name h.1 (omega (arith, e)) is)

named_entry : (k : ℕ) (o : Option Text) → IsNamed o → IsEntryName k (entry_name k o)
named_entry k None h = inr refl
named_entry k (Some x) h = inl h

pub names_more : {H : Type 0} (locals locals' : List (Local H)) (names names' : Names) (o : Option Text) (k : ℕ) (name copy : Text) (l : Local H)
    → (names ≡ names_of locals) × IsContext (names_of locals) → IsNamed o → k ≡ length locals → k < 999998999 → name ≡ entry_name k o → copy ≡ name → l.name ≡ name
    → names' ≡ names ++ copy ∷ [] → locals' ≡ locals ++ l ∷ [] → (names' ≡ names_of locals') × IsContext (names_of locals')
names_more locals locals' names names' o k name copy l h named c few is again own ns ls =
    let whole : names_of locals' ≡ names_of locals ++ l.name ∷ [] = ap names_of ls ∙ map-append (λ l. l.name) locals (l ∷ []) in
    let count : length (names_of locals) ≡ length locals = length-map locals (λ l. l.name) in
    let entry : IsEntryName k l.name = subst (IsEntryName k) (sym (own ∙ is)) (named_entry k o named) in
    let context : IsContext (names_of locals ++ l.name ∷ []) = record {
      named = named_more 0 k (names_of locals) l.name h.1.named (omega (arith, c, count)) entry;
      few = omega (arith, count, length-append (names_of locals) (l.name ∷ []));
    } in
    (ns ∙ ap (λ ns. ns ++ copy ∷ []) h.0 ∙ ap (λ n. names_of locals ++ n ∷ []) (again ∙ sym own) ∙ sym whole, subst IsContext (sym whole) context)
