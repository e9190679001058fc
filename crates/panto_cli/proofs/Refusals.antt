-- A book that is accepted isn't refused, and one that is on the shelf can be opened.
use Rattle.std.proofs.Common.{◌≡◌, ℕ, inl, inr, List, length, Option, Some, None, Ok, sym, ap, ◌∙◌, arith, subst}
use Rattle.pan_io.specs.Books.{NamedBytes}
use Rattle.pan_io.specs.Faults.{Rose}
use Rattle.term_syntax.specs.Lex.{Text}
use Rattle.panto_cli.specs.Books.{Items, Accepts, Refuses, RefusesText, IsTold, IsText, IsOpenFault, IsLongText, book_of}

-- a shelf that tells the book of a file can't fail to open it
pub can_open : (books : Option (List NamedBytes)) (file : Option Text) (items : Items) (before now : ℕ) → IsTold books file → Accepts books file items → IsOpenFault books file before now → ¬ Rose before now → ⊥
can_open books None items before now told accepts fault calm = fault
can_open None (Some file) items before now told accepts fault calm = told
can_open (Some books) (Some file) items before now told accepts (inl rose) calm = calm rose
can_open (Some books) (Some file) items before now told accepts (inr missing) calm = absurd (cc (missing, accepts.is))

-- the text is the same one
same_text : (books : Option (List NamedBytes)) (file : Option Text) (t u : Text) → IsTold books file → IsText books file t → IsText books file u → t ≡ u
same_text books None t u told a b = a ∙ sym b
same_text None (Some file) t u told a b = absurd told
same_text (Some books) (Some file) t u told a b = cc (a, b)

accepted_text : (books : Option (List NamedBytes)) (file : Option Text) (items : Items) (object : List ℕ) → IsTold books file → Accepts books file items → RefusesText books file object → ⊥
accepted_text books file items object told a r =
    let same : a.text ≡ r.text = same_text books file a.text r.text told a.is r.is in
    let ok = subst (λ t. book_of t ≡ Ok items) same a.value in
    absurd (cc (ok, r.shows.1))

not_long : (books : Option (List NamedBytes)) (file : Option Text) (items : Items) → IsTold books file → Accepts books file items → IsLongText books file → ⊥
not_long books None items told a long = long
not_long None (Some file) items told a long = told
not_long (Some books) (Some file) items told a long =
    let same : a.text ≡ long.0 = cc (a.is, long.1) in
    absurd (omega (arith, a.short, long.2, ap length same))

pub not_refused : (books : Option (List NamedBytes)) (file : Option Text) (items : Items) (object : List ℕ) → IsTold books file → Accepts books file items → Refuses books file object → ⊥
not_refused books file items object told a (inl long) = not_long books file items told a long.1
not_refused books file items object told a (inr r) = accepted_text books file items object told a r
