-- A book as a whole: its text, and then its items.
use Rattle.std.proofs.Common.{◌≡◌, ℕ, suc, List, [], ◌∷◌, Result, Ok, Err, All, refl, sym, ap, ◌∙◌, subst, IfOk}
use Rattle.ld_trees.specs.Term.{Term}
use Rattle.ld_rules.specs.Legality.{IsLegalEnvironment}
use Rattle.ld_terms.specs.Names.{IsTextName}
use Rattle.ld_terms.specs.declared.globals.Item.{Item}
use Rattle.term_syntax.specs.declared.fault.ReadFault.{ReadFault}
use Rattle.term_syntax.specs.declared.fault.ReadFault.TheVariants as fault
use Rattle.term_syntax.specs.Lex.{Text}
use Rattle.term_syntax.specs.Input.{place}
use Rattle.term_syntax.specs.Reading.{Outcome, Gives}
use Rattle.conversion.specs.Globals.{env_of}
use Rattle.meta_context.specs.Plain.{plain_items, rules_env}
use Rattle.meta_context.proofs.PlainItems.{env_again}
use Rattle.book_reader.specs.declared.source.Source.{Source}
use Rattle.book_reader.specs.declared.fault.BookFault.{BookFault}
use Rattle.book_reader.specs.declared.fault.BookFault.TheVariants as book
use Rattle.book_reader.specs.Book.{Syntax, behind, enter, enter_all, book_value, IsEntered}
use Rattle.book_reader.specs.Grammar.{IsBookText}
use Rattle.book_reader.specs.Items.{ItemRefusal, item}
use Rattle.book_reader.specs.Laws.{IsRefusedAt}
use Rattle.book_reader.specs.Reading.{read}
use Rattle.book_reader.specs.Answers.{ShowsBook, IsBook}
use Rattle.book_reader.specs.Entering.{fault_of}
use Rattle.book_reader.proofs.Legal.{enter_legal, enter_named}
use Rattle.book_reader.proofs.Sound.{read_sound}
use Rattle.book_reader.proofs.Texts.{gives_ok, read_complete, refused, named_sources}

pub unread_shows : {H : Type 0} (holds : H → Type 0) (means : H → Term) (Δ : List (Item Term)) (units : ℕ) (text : Text) (e : ReadFault) (f : BookFault H) → f ≡ fault_of e → Gives (λ ss _. ss) (read text) (Err e) → ShowsBook holds means (book_value Δ units text) f
unread_shows holds means Δ units text fault.Memory f is h = subst (ShowsBook holds means (book_value Δ units text)) (sym is) tt
unread_shows holds means Δ units text (fault.Syntax at) f is h = subst (ShowsBook holds means (book_value Δ units text)) (sym is) (ap (enter_all units Δ) h.1 ∙ ap (λ (n : ℕ). Err (Syntax n)) (sym h.2))

pub whole_is : (Δ : List (Item Term)) (units : ℕ) (text : Text) (ss : List Source) → Gives (λ ss _. ss) (read text) (Ok ss) → enter units 0 Δ ss ≡ book_value Δ units text
whole_is Δ units text ss h = let x = gives_ok (read text) ss h in sym (ap (enter_all units Δ) x.1)

pub legal_all : (units : ℕ) (Δ : List (Item Term)) (o : Outcome (List Source)) (all : List (Item Term)) → IsLegalEnvironment (rules_env Δ) → enter_all units Δ o ≡ Ok all → IsLegalEnvironment (rules_env all)
legal_all units Δ (Ok p) all legal e = enter_legal units 0 Δ p.0 all legal e
legal_all units Δ (Err i) all legal e = absurd cc

-- the items of a book behind items with names of the texts have such names too
named_all : (units : ℕ) (Δ : List (Item Term)) (text : Text) (o : Outcome (List Source)) (all : List (Item Term)) → read text ≡ o → All (λ i. IsTextName i.name) Δ → enter_all units Δ o ≡ Ok all → All (λ i. IsTextName i.name) all
named_all units Δ text (Ok p) all is h e = enter_named units 0 Δ p.0 all (named_sources text p.0 p.1 is) h e
named_all units Δ text (Err i) all is h e = absurd cc

pub book_named : (units : ℕ) (Δ : List (Item Term)) (text : Text) (all : List (Item Term)) → All (λ i. IsTextName i.name) Δ → book_value Δ units text ≡ Ok all → All (λ i. IsTextName i.name) all
book_named units Δ text all h e = named_all units Δ text (read text) all refl h e

pub book_legal : {H : Type 0} (holds : H → Type 0) (means means' : H → Term) (items : List (Item H)) (units : ℕ) (text : Text) (r : Result (List (Item H)) (BookFault H))
    → IsBook holds means' (book_value (plain_items means items) units text) r → IsLegalEnvironment (env_of means items []) → IfOk r (λ e. IsLegalEnvironment (env_of means' e []))
book_legal holds means means' items units text (Err e) h legal = tt
book_legal holds means means' items units text (Ok e) h legal =
    subst IsLegalEnvironment (sym (env_again means' e)) (legal_all units (plain_items means items) (read text) (plain_items means' e) (subst IsLegalEnvironment (env_again means items) legal) h.0)

-- ---- the book by the grammar

pub found : {H : Type 0} (holds : H → Type 0) (means : H → Term) (Δ : List (Item Term)) (units : ℕ) (text : Text) (r : Result (List (Item H)) (BookFault H))
    → IsBook holds means (book_value Δ units text) r → IfOk r (λ e. IsEntered Δ units text (plain_items means e))
found holds means Δ units text (Err e) h = tt
found holds means Δ units text (Ok e) h = by (read text) refl h.0 where
  by : (o : Outcome (List Source)) → read text ≡ o → enter_all units Δ o ≡ Ok (plain_items means e) → IsEntered Δ units text (plain_items means e)
  by (Ok p) is made = record { sources = p.0; book = read_sound text p.0 p.1 is; enters = made }
  by (Err i) is made = absurd cc

pub only : {H : Type 0} (holds : H → Type 0) (means : H → Term) (Δ : List (Item Term)) (units : ℕ) (text : Text) (r : Result (List (Item H)) (BookFault H))
    → IsBook holds means (book_value Δ units text) r → (ss : List Source) → IsBookText text ss → IsBook holds means (enter units 0 Δ ss) r
only holds means Δ units text r h ss is = let x = read_complete text ss is in subst (λ o. IsBook holds means o r) (ap (enter_all units Δ) x.1) h

-- items that enter are not refused for their text
no_syntax : (units k : ℕ) (Δ : List (Item Term)) (ss : List Source) (n : ℕ) → enter units k Δ ss ≡ Err (Syntax n) → ⊥
no_syntax units k Δ [] n e = absurd cc
no_syntax units k Δ (s ∷ ss) n e = by (item Δ s units) (λ i. no_syntax units (suc k) (i ∷ Δ) ss n) e where
  by : (o : Result (Item Term × ℕ) ItemRefusal) → ((i : Item Term) → enter units (suc k) (i ∷ Δ) ss ≡ Err (Syntax n) → ⊥) → behind k o (λ i. enter units (suc k) (i ∷ Δ) ss) ≡ Err (Syntax n) → ⊥
  by (Ok p) others e = others p.0 e
  by (Err r) others e = absurd cc

refused_text : (Δ : List (Item Term)) (units : ℕ) (text : Text) (n : ℕ) → book_value Δ units text ≡ Err (Syntax n) → IsRefusedAt text n
refused_text Δ units text n e = by (read text) refl e where
  by : (o : Outcome (List Source)) → read text ≡ o → enter_all units Δ o ≡ Err (Syntax n) → IsRefusedAt text n
  by (Ok p) is e = absurd (no_syntax units 0 Δ p.0 n e)
  by (Err i) is e = let at : place i ≡ n = cc in refused text i n is at

pub refused_at : {H : Type 0} (holds : H → Type 0) (means : H → Term) (Δ : List (Item Term)) (units : ℕ) (text : Text) (r : Result (List (Item H)) (BookFault H))
    → IsBook holds means (book_value Δ units text) r → (n : ℕ) → r ≡ Err (book.Syntax n) → IsRefusedAt text n
refused_at holds means Δ units text r h n e = refused_text Δ units text n (subst (λ r. IsBook holds means (book_value Δ units text) r) e h)
