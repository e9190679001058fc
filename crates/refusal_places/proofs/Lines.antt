-- The lines of the grammar as relations between parts, whatever the trees are.
use Rattle.std.proofs.Common.{◌≡◌, ℕ, suc, inl, inr, List, [], ◌∷◌, refl, ap, sym, ◌∙◌, subst}
use Rattle.term_syntax.specs.declared.surface.Surface.{Surface}
use Rattle.term_syntax.specs.declared.surface.Label.{Label}
use Rattle.term_syntax.specs.declared.surface.Label.TheVariants as label
use Rattle.term_syntax.specs.declared.kind.Kind.{Kind}
use Rattle.term_syntax.specs.declared.kind.Kind.TheVariants as k
use Rattle.term_syntax.specs.Lex.{Lexeme}
use Rattle.term_syntax.specs.Grammar as grammar
use Rattle.term_syntax.specs.Grammar.{IsLabel, IsTerm, IsBinder, IsApp, IsAtoms, IsAtom, IsArguments}
use Rattle.term_syntax.proofs.NoBinder.{app_no_binder}
use Rattle.refusal_places.proofs.Parts.{Part, Exists, Then, Token, Nothing, Either, Within, exists_within, exists_then, token_exists, nothing_exists, left_of, right_of}

-- the parts of the grammar, whatever their trees are
pub record LabelOf (ts rest : List Lexeme) : Type 0 where
  pub token : Lexeme
  pub name : Label
  pub is : IsLabel token name
  pub tokens : ts ≡ token ∷ rest

pub record TermOf (d : ℕ) (ts rest : List Lexeme) : Type 0 where
  pub tree : Surface
  pub is : IsTerm d ts tree rest

pub record BinderOf (d : ℕ) (ts rest : List Lexeme) : Type 0 where
  pub name : Label
  pub tree : Surface
  pub is : IsBinder d ts name tree rest

pub record AtomOf (d : ℕ) (ts rest : List Lexeme) : Type 0 where
  pub tree : Surface
  pub is : IsAtom d ts tree rest

pub record AtomsOf (d : ℕ) (ts rest : List Lexeme) : Type 0 where
  pub head : Surface
  pub others : List Surface
  pub is : IsAtoms d ts head others rest

pub record AppOf (d : ℕ) (ts rest : List Lexeme) : Type 0 where
  pub tree : Surface
  pub is : IsApp d ts tree rest

-- arguments, at least one, and a closing parenthesis
pub record ListOf (d : ℕ) (ts rest : List Lexeme) : Type 0 where
  pub close : Lexeme
  pub kind : close.kind ≡ k.Close
  pub head : Surface
  pub others : List Surface
  pub is : IsArguments d ts head others (close ∷ rest)

term_to : {d : ℕ} {ts us vs : List Lexeme} {t : Surface} → us ≡ vs → IsTerm d ts t us → IsTerm d ts t vs
term_to {d = d} {ts = ts} {t = t} e h = subst (λ ls. IsTerm d ts t ls) e h

binder_to : {d : ℕ} {ts us vs : List Lexeme} {x : Label} {t : Surface} → us ≡ vs → IsBinder d ts x t us → IsBinder d ts x t vs
binder_to {d = d} {ts = ts} {x = x} {t = t} e h = subst (λ ls. IsBinder d ts x t ls) e h

app_to : {d : ℕ} {ts us vs : List Lexeme} {t : Surface} → us ≡ vs → IsApp d ts t us → IsApp d ts t vs
app_to {d = d} {ts = ts} {t = t} e h = subst (λ ls. IsApp d ts t ls) e h

atom_to : {d : ℕ} {ts us vs : List Lexeme} {t : Surface} → us ≡ vs → IsAtom d ts t us → IsAtom d ts t vs
atom_to {d = d} {ts = ts} {t = t} e h = subst (λ ls. IsAtom d ts t ls) e h

atom_at : {d : ℕ} {ts us vs rest : List Lexeme} {t : Surface} → ts ≡ us → vs ≡ rest → IsAtom d us t vs → AtomOf d ts rest
atom_at {d = d} {rest = rest} {t = t} e f h = subst (λ ls. AtomOf d ls rest) (sym e) (record { tree = t; is = atom_to f h })

term_at : {d : ℕ} {ts us vs rest : List Lexeme} {t : Surface} → ts ≡ us → vs ≡ rest → IsTerm d us t vs → TermOf d ts rest
term_at {d = d} {rest = rest} {t = t} e f h = subst (λ ls. TermOf d ls rest) (sym e) (record { tree = t; is = term_to f h })

call_at : {d : ℕ} {ts us vs ws rest : List Lexeme} {n o : Lexeme} {t : Surface} → ts ≡ n ∷ us → us ≡ o ∷ vs → ws ≡ rest → IsAtom d (n ∷ o ∷ vs) t ws → AtomOf d ts rest
call_at {n = n} e f same h = atom_at (e ∙ ap (λ ls. n ∷ ls) f) same h

-- ---- the lines of the grammar, over parts
module _ (d : ℕ) where
  abbrev pub BinderParts : Part
  BinderParts = Then (Token k.Open) (Then LabelOf (Then (Token k.Colon) (Then (TermOf d) (Then (Token k.Close) Nothing))))

  pub binder_line : Within BinderParts (BinderOf d)
  binder_line = record {
    run = λ ts rest m.
        let o = m.first in
        let n = m.second.first in
        let c = m.second.second.first in
        let t = m.second.second.second.first in
        let z = m.second.second.second.second.first in
        record {
          name = n.name;
          tree = t.tree;
          is = rw (o.tokens, n.tokens, c.tokens) (grammar.binder o.kind n.is c.kind (term_to (z.tokens ∙ ap (λ ls. z.token ∷ ls) m.second.second.second.second.second.same) t.is) z.kind);
        };
  }

  pub parentheses_line : Within (Then (Token k.Open) (Then (TermOf d) (Then (Token k.Close) Nothing))) (AtomOf d)
  parentheses_line = record {
    run = λ ts rest m.
        let o = m.first in
        let t = m.second.first in
        let z = m.second.second.first in
        record { tree = t.tree; is = rw o.tokens (grammar.parentheses o.kind (term_to (z.tokens ∙ ap (λ ls. z.token ∷ ls) m.second.second.second.same) t.is) z.kind) };
  }

  pub list_line : Within (Then (TermOf d) (Either (Then (Token k.Comma) (ListOf d)) (Then (Token k.Close) Nothing))) (ListOf d)
  list_line = record {
    run = λ ts rest m. elim m.second.choice [
      | inl c ↦ record { close = c.second.close; kind = c.second.kind; head = m.first.tree; others = c.second.head ∷ c.second.others; is = grammar.more_arguments (term_to c.first.tokens m.first.is) c.first.kind c.second.is }
      | inr z ↦ record { close = z.first.token; kind = z.first.kind; head = m.first.tree; others = []; is = grammar.last_argument (term_to (z.first.tokens ∙ ap (λ ls. z.first.token ∷ ls) z.second.same) m.first.is) }
    ];
  }

  abbrev pub ArgumentsOf : Part
  ArgumentsOf = Either (Then (Token k.Close) Nothing) (ListOf d)

  pub constant_line : Within (Then (Token k.Call) (Then (Token k.Open) (Then ArgumentsOf Nothing))) (AtomOf d)
  constant_line = record {
    run = λ ts rest m.
        let n = m.first in
        let o = m.second.first in
        let same = m.second.second.second.same in
        elim m.second.second.first.choice [
          | inl z ↦ call_at n.tokens (o.tokens ∙ ap (λ ls. o.token ∷ ls) z.first.tokens) (z.second.same ∙ same) (grammar.bare n.kind o.kind z.first.kind)
          | inr a ↦ call_at n.tokens o.tokens same (grammar.constant n.kind o.kind a.is a.kind)
        ];
  }

  pub named_line : Within (Then LabelOf Nothing) (AtomOf d)
  named_line = record { run = λ ts rest m. atom_at m.first.tokens m.second.same (grammar.named m.first.is) }

  pub star_line : Within (Then (Token k.Star) Nothing) (AtomOf d)
  star_line = record { run = λ ts rest m. atom_at m.first.tokens m.second.same (grammar.star m.first.kind) }

  pub wild_line : Within (Then (Token k.Wild) Nothing) (AtomOf d)
  wild_line = record { run = λ ts rest m. atom_at m.first.tokens m.second.same (grammar.wild m.first.kind) }

  pub asked_line : Within (Then (Token k.Asked) Nothing) (AtomOf d)
  asked_line = record { run = λ ts rest m. atom_at m.first.tokens m.second.same (grammar.asked m.first.kind) }

  -- atoms or none
  abbrev pub MoreOf : Part
  MoreOf = Either Nothing (AtomsOf d)

  pub more_line : Within (Then (AtomOf d) MoreOf) MoreOf
  more_line = record {
    run = λ ts rest m. record {
      choice = inr (elim m.second.choice [
        | inl e ↦ record { head = m.first.tree; others = []; is = grammar.last_atom (atom_to e.same m.first.is) }
        | inr a ↦ record { head = m.first.tree; others = a.head ∷ a.others; is = grammar.more_atoms m.first.is a.is }
      ]);
    };
  }

  pub app_line : Within (Then (AtomOf d) (Then MoreOf Nothing)) (AppOf d)
  app_line = record {
    run = λ ts rest m. elim m.second.first.choice [
      | inl e ↦ record { tree = _; is = grammar.alone (atom_to (e.same ∙ m.second.second.same) m.first.is) }
      | inr a ↦ record { tree = _; is = app_to m.second.second.same (grammar.spine m.first.is a.is) }
    ];
  }

  pub abstraction_line : Within (Then (Token k.Fun) (Then (BinderOf d) (Then (Token k.FatArrow) (Then (TermOf d) Nothing)))) (TermOf (suc d))
  abstraction_line = record {
    run = λ ts rest m.
        let f = m.first in
        let b = m.second.first in
        let a = m.second.second.first in
        let t = m.second.second.second.first in
        term_at f.tokens m.second.second.second.second.same (grammar.abstraction f.kind (binder_to a.tokens b.is) a.kind t.is);
  }

  product_of : {ts us vs rest : List Lexeme} {x : Label} {ty body : Surface} (a : Lexeme) → IsBinder d ts x ty us → us ≡ a ∷ vs → a.kind ≡ k.Arrow → IsTerm d vs body rest → TermOf (suc d) ts rest
  product_of {ts = []} a h e ka is = elim h [ ]
  product_of {ts = o ∷ ts} a h e ka is = record { tree = _; is = grammar.product (binder_to e h) ka is }

  pub product_line : Within (Then (BinderOf d) (Then (Token k.Arrow) (Then (TermOf d) Nothing))) (TermOf (suc d))
  product_line = record {
    run = λ ts rest m.
        let a = m.second.first in
        product_of a.token m.first.is a.tokens a.kind (term_to m.second.second.second.same m.second.second.first.is);
  }

  pub arrows_line : Within (Then (AppOf d) (Either (Then (Token k.Arrow) (Then (TermOf d) Nothing)) Nothing)) (TermOf (suc d))
  arrows_line = record {
    run = λ ts rest m. elim m.second.choice [
      | inl x ↦ let h = app_to x.first.tokens m.first.is in record { tree = _; is = grammar.arrow (app_no_binder h) h x.first.kind (term_to x.second.second.same x.second.first.is) }
      | inr e ↦ let h = app_to e.same m.first.is in record { tree = _; is = grammar.application (app_no_binder h) h }
    ];
  }

  pub star_exists : Exists (AtomOf d)
  star_exists = exists_within star_line (exists_then (token_exists k.Star) nothing_exists)

  pub more_exists : Exists MoreOf
  more_exists = exists_within left_of nothing_exists

  pub app_exists : Exists (AppOf d)
  app_exists = exists_within app_line (exists_then star_exists (exists_then more_exists nothing_exists))

  pub term_exists : Exists (TermOf (suc d))
  term_exists = exists_within arrows_line (exists_then app_exists (exists_within right_of nothing_exists))

-- ---- labels
pub label_exists : Exists LabelOf
label_exists =
    let l : Lexeme = record { kind = k.Name; at = 0; text = [] } in
    record { tokens = l ∷ []; fits = record { before = λ rest. record { token = l; name = label.Plain []; is = grammar.name refl; tokens = refl } } }

pub label_token : {t : Kind} → ((l : Lexeme) → l.kind ≡ t → (x : Label) × IsLabel l x) → Within (Then (Token t) Nothing) LabelOf
label_token f = record {
  run = λ ts rest m.
      let x = f m.first.token m.first.kind in
      record { token = m.first.token; name = x.0; is = x.1; tokens = m.first.tokens ∙ ap (λ ls. m.first.token ∷ ls) m.second.same };
}
