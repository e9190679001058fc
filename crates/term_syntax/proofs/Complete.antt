-- What is in the grammar is read, where what follows doesn't go on with it.
use Rattle.std.proofs.Common.{◌≡◌, ℕ, zero, suc, ◌<◌, Bool, true, false, if◌then◌else◌, List, [], ◌∷◌, ◌++◌, length, Ok, Some, None, refl, ap, sym, ◌∙◌, arith, append_assoc, subst}
use Rattle.std.proofs.lemmas.Bool.{false≢true}
use Rattle.term_syntax.specs.declared.surface.Surface.{Surface}
use Rattle.term_syntax.specs.declared.surface.Label.{Label}
use Rattle.term_syntax.specs.declared.surface.Label.TheVariants as label
use Rattle.term_syntax.specs.declared.surface.Shape.TheVariants as shape
use Rattle.term_syntax.specs.declared.kind.Kind.{Kind}
use Rattle.term_syntax.specs.declared.kind.Kind.TheVariants as k
use Rattle.term_syntax.specs.Lex.{Lexeme}
use Rattle.term_syntax.specs.Kinds.{is_kind}
use Rattle.term_syntax.specs.Input.{Input, kind, kind_of, tail_of, next, place_of, spelling_of, begins_binder, is_nil}
use Rattle.term_syntax.specs.Reading.{Parser, and_then, ◌>>=◌, ◌>>◌, pure, here, at_end, peek, sees, expect, eat, take_token, label_at, begins_atom, binder, arguments_from, arguments, constant, parenthesized, atom_by, atom, atoms_from, atoms, app, applied, abstraction, product, arrows, whole, term}
use Rattle.term_syntax.specs.Grammar as grammar
use Rattle.term_syntax.specs.Grammar.{IsLabel, IsTerm, IsBinder, IsApp, IsAtoms, IsAtom, IsArguments, first, node, level_of}
use Rattle.term_syntax.proofs.Progress.{Shorter, term_shorter, atom_shorter, ok_inj}

pub is_kind_refl : (t : Kind) → is_kind t t ≡ true
unfolding is_kind
is_kind_refl k.End = refl
is_kind_refl _ = refl

pub sees_it : (l : Lexeme) (t : Kind) → l.kind ≡ t → is_kind l.kind t ≡ true
sees_it l t e = rw e (is_kind_refl t)

-- from these tokens on the parser answers this, and then come those
pub record Runs {A : Type 0} (p : Parser A) (ts : List Lexeme) (a : A) (rest : List Lexeme) : Type 0 where
  pub run : (i : Input) → i.ahead ≡ ts → (j : Input) × (p i ≡ Ok (a, j)) × (j.ahead ≡ rest)

pub runs_then : {A B : Type 0} {p : Parser A} (f : A → Parser B) {ts us rest : List Lexeme} {a : A} {b : B} → Runs p ts a us → Runs (f a) us b rest → Runs (p >>= f) ts b rest
runs_then {p = p} f m n = record {
  run = λ i e.
      let x = m.run i e in
      let y = n.run x.0 x.2 in
      (y.0, ap (λ r. and_then r f) x.1 ∙ y.1, y.2);
}

pub pure_runs : {A : Type 0} (a : A) (ts : List Lexeme) → Runs (pure a) ts a ts
pure_runs a ts = record { run = λ i e. (i, refl, e) }

pub here_runs : (l : Lexeme) (ts : List Lexeme) → Runs here (l ∷ ts) l.at (l ∷ ts)
here_runs l ts = record { run = λ i e. (i, ap (λ ls. Ok (place_of i.end ls, i)) e, e) }

pub expect_runs : {t : Kind} (l : Lexeme) (ts : List Lexeme) → l.kind ≡ t → Runs (expect t) (l ∷ ts) tt ts
unfolding expect
expect_runs {t = t} l ts e = record {
  run = λ i is.
      (next i, (let seen : sees t i ≡ true = ap (λ ls. is_kind (kind_of ls) t) is ∙ sees_it l t e in rw seen refl), ap tail_of is);
}

pub eat_yes : {A : Type 0} {t : Kind} {p : Parser A} (q : Parser A) {ts rest : List Lexeme} {a : A} (l : Lexeme) → l.kind ≡ t → Runs p ts a rest → Runs (eat t >>= (λ b. if b then p else q)) (l ∷ ts) a rest
unfolding eat
eat_yes {t = t} q l e m = record {
  run = λ i is.
      let x = m.run (next i) (ap tail_of is) in
      (x.0, (let seen : sees t i ≡ true = ap (λ ls. is_kind (kind_of ls) t) is ∙ sees_it l t e in rw seen x.1), x.2);
}

pub eat_no : {A : Type 0} (t : Kind) (p : Parser A) {q : Parser A} {ts rest : List Lexeme} {a : A} → is_kind (kind_of ts) t ≡ false → Runs q ts a rest → Runs (eat t >>= (λ b. if b then p else q)) ts a rest
unfolding eat
eat_no t p e m = record {
  run = λ i is.
      let x = m.run i is in
      (x.0, (let seen : sees t i ≡ false = ap (λ ls. is_kind (kind_of ls) t) is ∙ e in rw seen x.1), x.2);
}

pub peek_yes : {A : Type 0} (test : Kind → Bool) {p : Parser A} (q : Parser A) {ts rest : List Lexeme} {a : A} → test (kind_of ts) ≡ true → Runs p ts a rest → Runs (peek >>= (λ kind. if test kind then p else q)) ts a rest
peek_yes test q e m = record {
  run = λ i is.
      let x = m.run i is in
      (x.0, (let seen : test (kind i) ≡ true = ap (λ ls. test (kind_of ls)) is ∙ e in rw seen x.1), x.2);
}

pub peek_no : {A : Type 0} (test : Kind → Bool) (p : Parser A) {q : Parser A} {ts rest : List Lexeme} {a : A} → test (kind_of ts) ≡ false → Runs q ts a rest → Runs (peek >>= (λ kind. if test kind then p else q)) ts a rest
peek_no test p e m = record {
  run = λ i is.
      let x = m.run i is in
      (x.0, (let seen : test (kind i) ≡ false = ap (λ ls. test (kind_of ls)) is ∙ e in rw seen x.1), x.2);
}

-- the first at the end of the text, and elsewhere the second
pub over_yes : {A : Type 0} {p : Parser A} (q : Parser A) {ts rest : List Lexeme} {a : A} → is_nil ts ≡ true → Runs p ts a rest → Runs (at_end >>= (λ over. if over then p else q)) ts a rest
over_yes q e m = record {
  run = λ i is.
      let x = m.run i is in
      (x.0, (let seen : is_nil i.ahead ≡ true = ap is_nil is ∙ e in rw seen x.1), x.2);
}

pub over_no : {A : Type 0} (p : Parser A) {q : Parser A} {ts rest : List Lexeme} {a : A} → is_nil ts ≡ false → Runs q ts a rest → Runs (at_end >>= (λ over. if over then p else q)) ts a rest
over_no p e m = record {
  run = λ i is.
      let x = m.run i is in
      (x.0, (let seen : is_nil i.ahead ≡ false = ap is_nil is ∙ e in rw seen x.1), x.2);
}

pub take_runs : (l : Lexeme) (ts : List Lexeme) → Runs take_token (l ∷ ts) l.text ts
take_runs l ts = record { run = λ i e. (next i, ap (λ ls. Ok (spelling_of ls, next i)) e, ap tail_of e) }

pub label_runs : {l : Lexeme} {x : Label} (ts : List Lexeme) → IsLabel l x → Runs label_at (l ∷ ts) x ts
unfolding label_at
label_runs {l = l} ts (grammar.name e) = record {
  run = λ i is.
      (next i, (let seen : kind i ≡ k.Name = ap kind_of is ∙ e in rw seen (ap (λ ls. Ok (label.Plain (spelling_of ls), next i)) is)), ap tail_of is);
}
label_runs {l = l} ts (grammar.level e) = record {
  run = λ i is.
      (next i, (let seen : kind i ≡ k.Level = ap kind_of is ∙ e in rw seen (ap (λ ls. Ok (label.Level (level_of (spelling_of ls)), next i)) is)), ap tail_of is);
}

-- what can't go on with a term
pub record Follows (rest : List Lexeme) : Type 0 where
  pub no_atom : begins_atom (kind_of rest) ≡ false
  pub no_arrow : is_kind (kind_of rest) k.Arrow ≡ false

pub follows_kind : (l : Lexeme) (rest : List Lexeme) (t : Kind) → l.kind ≡ t → begins_atom t ≡ false → is_kind t k.Arrow ≡ false → Follows (l ∷ rest)
follows_kind l rest t e a b = record { no_atom = rw e a; no_arrow = rw e b }

label_begins : {l : Lexeme} {x : Label} → IsLabel l x → begins_atom l.kind ≡ true
label_begins (grammar.name e) = rw e refl
label_begins (grammar.level e) = rw e refl

pub atom_begins : {d : ℕ} {ts rest : List Lexeme} {t : Surface} → IsAtom d ts t rest → begins_atom (kind_of ts) ≡ true
atom_begins (grammar.star e) = rw e refl
atom_begins (grammar.wild e) = rw e refl
atom_begins (grammar.asked e) = rw e refl
atom_begins (grammar.named e) = label_begins e
atom_begins (grammar.parentheses e t z) = rw e refl
atom_begins (grammar.bare e o z) = rw e refl
atom_begins (grammar.constant e o a z) = rw e refl

pub app_begins : {d : ℕ} {ts rest : List Lexeme} {t : Surface} → IsApp d ts t rest → begins_atom (kind_of ts) ≡ true
app_begins (grammar.alone h) = atom_begins h
app_begins (grammar.spine h more) = atom_begins h

pub atoms_begin : {d : ℕ} {ts rest : List Lexeme} {x : Surface} {xs : List Surface} → IsAtoms d ts x xs rest → begins_atom (kind_of ts) ≡ true
atoms_begin (grammar.last_atom h) = atom_begins h
atoms_begin (grammar.more_atoms h more) = atom_begins h

pub not_fun : (t : Kind) → begins_atom t ≡ true → is_kind t k.Fun ≡ false
unfolding is_kind
not_fun k.Fun e = absurd (false≢true e)
not_fun _ e = refl

module _ (d : ℕ) (inner : Parser Surface) (s : Shorter inner) where
  binder_runs : {o n c z : Lexeme} {ts rest : List Lexeme} {x : Label} {ty : Surface} → o.kind ≡ k.Open → IsLabel n x → c.kind ≡ k.Colon → Runs inner ts ty (z ∷ rest) → z.kind ≡ k.Close
      → Runs (binder inner) (o ∷ n ∷ c ∷ ts) (x, ty) rest
  unfolding binder
  binder_runs {o = o} {n = n} {c = c} {z = z} {ts = ts} {rest = rest} {x = x} {ty = ty} eo en ec m ez =
      runs_then _ (expect_runs o (n ∷ c ∷ ts) eo) (runs_then _ (label_runs (c ∷ ts) en) (runs_then _ (expect_runs c ts ec) (runs_then _ m (runs_then _ (expect_runs z rest ez) (pure_runs (x, ty) rest)))))

  parenthesized_runs : {o z : Lexeme} {ts rest : List Lexeme} {t : Surface} → o.kind ≡ k.Open → Runs inner ts t (z ∷ rest) → z.kind ≡ k.Close → Runs (parenthesized inner) (o ∷ ts) t rest
  unfolding parenthesized
  parenthesized_runs {o = o} {z = z} {ts = ts} {rest = rest} {t = t} eo m ez = runs_then _ (expect_runs o ts eo) (runs_then _ m (runs_then _ (expect_runs z rest ez) (pure_runs t rest)))

  abstraction_runs : {f a : Lexeme} {ts us rest : List Lexeme} {x : Label} {ty body : Surface} → f.kind ≡ k.Fun → Runs (binder inner) ts (x, ty) (a ∷ us) → a.kind ≡ k.FatArrow → Runs inner us body rest
      → Runs (abstraction inner) (f ∷ ts) (node f.at (shape.Lam x ty body)) rest
  unfolding abstraction
  abstraction_runs {f = f} {a = a} {ts = ts} {us = us} {rest = rest} {x = x} {ty = ty} {body = body} ef b ea m =
      runs_then (λ at. expect k.Fun >> (binder inner >>= (λ b. expect k.FatArrow >> (inner >>= (λ body. pure (node at (shape.Lam b.0 b.1 body))))))) (here_runs f ts) (runs_then _ (expect_runs f ts ef) (runs_then _ b (runs_then _ (expect_runs a us ea) (runs_then _ m (pure_runs (node f.at (shape.Lam x ty body)) rest)))))

  product_runs : {o a : Lexeme} {ts us rest : List Lexeme} {x : Label} {ty body : Surface} → Runs (binder inner) (o ∷ ts) (x, ty) (a ∷ us) → a.kind ≡ k.Arrow → Runs inner us body rest
      → Runs (product inner) (o ∷ ts) (node o.at (shape.Pi (Some x) ty body)) rest
  unfolding product
  product_runs {o = o} {a = a} {ts = ts} {us = us} {rest = rest} {x = x} {ty = ty} {body = body} b ea m =
      runs_then (λ at. binder inner >>= (λ b. expect k.Arrow >> (inner >>= (λ body. pure (node at (shape.Pi (Some b.0) b.1 body)))))) (here_runs o ts) (runs_then _ b (runs_then _ (expect_runs a us ea) (runs_then _ m (pure_runs (node o.at (shape.Pi (Some x) ty body)) rest))))

  atom_of : {ts rest : List Lexeme} {t : Surface} (l : Lexeme) (c : Kind) → l.kind ≡ c → Runs (atom_by inner l.at c) (l ∷ ts) t rest → Runs (atom inner) (l ∷ ts) t rest
  unfolding atom
  atom_of l c e m = record {
    run = λ i is.
        let x = m.run i is in
        (x.0, ap (λ ls. atom_by inner (place_of i.end ls) (kind_of ls) i) is ∙ ap (λ t. atom_by inner l.at t i) e ∙ x.1, x.2);
  }

  constant_runs : {n o : Lexeme} {ts rest : List Lexeme} {xs : List Surface} → o.kind ≡ k.Open → Runs (arguments inner) ts xs rest → Runs (constant inner) (n ∷ o ∷ ts) (node n.at (shape.Const n.text xs)) rest
  unfolding constant
  constant_runs {n = n} {o = o} {ts = ts} {rest = rest} {xs = xs} eo m =
      runs_then (λ at. take_token >>= (λ name. expect k.Open >> (arguments inner >>= (λ found. pure (node at (shape.Const name found)))))) (here_runs n (o ∷ ts)) (runs_then (λ name. expect k.Open >> (arguments inner >>= (λ found. pure (node n.at (shape.Const name found))))) (take_runs n (o ∷ ts)) (runs_then _ (expect_runs o ts eo) (runs_then _ m (pure_runs (node n.at (shape.Const n.text xs)) rest))))

  no_arguments : {z : Lexeme} {rest : List Lexeme} → z.kind ≡ k.Close → Runs (arguments inner) (z ∷ rest) [] rest
  unfolding arguments
  no_arguments {z = z} {rest = rest} e = eat_yes _ z e (pure_runs [] rest)

  -- the rest of a list behind what was found
  abbrev ArgumentsRun : List Lexeme → Surface → List Surface → List Lexeme → Type 0
  ArgumentsRun ts y ys rest = (n : ℕ) (found : List Surface) → length ts < n → Runs (arguments_from inner n found) ts (found ++ y ∷ ys) rest

  last_argument_runs : {z : Lexeme} {ts rest : List Lexeme} {y : Surface} → Runs inner ts y (z ∷ rest) → z.kind ≡ k.Close → ArgumentsRun ts y [] rest
  unfolding arguments_from is_kind
  last_argument_runs {z = z} {rest = rest} {y = y} m e zero found fits = absurd (omega arith)
  last_argument_runs {z = z} {rest = rest} {y = y} m e (suc n) found fits =
      runs_then _ m (eat_no k.Comma _ (rw e refl) (runs_then _ (expect_runs z rest e) (pure_runs (found ++ y ∷ []) rest)))

  more_arguments_run : {c : Lexeme} {ts us rest : List Lexeme} {x y : Surface} {ys : List Surface} → Runs inner ts x (c ∷ us) → length us < length ts → c.kind ≡ k.Comma → ArgumentsRun us y ys rest → ArgumentsRun ts x (y ∷ ys) rest
  unfolding arguments_from
  more_arguments_run m less e more zero found fits = absurd (omega arith)
  more_arguments_run {c = c} {ts = ts} {us = us} {rest = rest} {x = x} {y = y} {ys = ys} m less e more (suc n) found fits =
      let after : Runs (arguments_from inner n (found ++ x ∷ [])) us (found ++ x ∷ y ∷ ys) rest = rw (← append_assoc found (x ∷ []) (y ∷ ys)) (more n (found ++ x ∷ []) (omega arith)) in
      runs_then _ m (eat_yes _ c e after)

  some_arguments : {ts rest : List Lexeme} {y : Surface} {ys : List Surface} → is_kind (kind_of ts) k.Close ≡ false → ArgumentsRun ts y ys rest → Runs (arguments inner) ts (y ∷ ys) rest
  unfolding arguments
  some_arguments {ts = ts} {rest = rest} {y = y} {ys = ys} e m = eat_no k.Close _ e (record {
    run = λ i is.
        (m (suc (length i.ahead)) [] (rw is (omega arith))).run i is;
  })

  abbrev AtomsRun : List Lexeme → Surface → List Surface → List Lexeme → Type 0
  AtomsRun ts y ys rest = (n : ℕ) (found : List Surface) → length ts < n → Runs (atoms_from inner n found) ts (found ++ y ∷ ys) rest

  last_atom_runs : {ts rest : List Lexeme} {y : Surface} → begins_atom (kind_of ts) ≡ true → Runs (atom inner) ts y rest → length rest < length ts → begins_atom (kind_of rest) ≡ false → AtomsRun ts y [] rest
  unfolding atoms_from
  last_atom_runs b m less e zero found fits = absurd (omega arith)
  last_atom_runs b m less e (suc zero) found fits = absurd (omega arith)
  last_atom_runs {rest = rest} {y = y} b m less e (suc (suc n)) found fits = peek_yes begins_atom _ b (runs_then _ m (peek_no begins_atom _ e (pure_runs (found ++ y ∷ []) rest)))

  more_atoms_run : {ts us rest : List Lexeme} {x y : Surface} {ys : List Surface} → begins_atom (kind_of ts) ≡ true → Runs (atom inner) ts x us → length us < length ts → AtomsRun us y ys rest → AtomsRun ts x (y ∷ ys) rest
  unfolding atoms_from
  more_atoms_run b m less more zero found fits = absurd (omega arith)
  more_atoms_run {us = us} {rest = rest} {x = x} {y = y} {ys = ys} b m less more (suc n) found fits =
      let after : Runs (atoms_from inner n (found ++ x ∷ [])) us (found ++ x ∷ y ∷ ys) rest = rw (← append_assoc found (x ∷ []) (y ∷ ys)) (more n (found ++ x ∷ []) (omega arith)) in
      peek_yes begins_atom _ b (runs_then _ m after)

  alone_runs : {l : Lexeme} {ts rest : List Lexeme} {t : Surface} → Runs (atom inner) (l ∷ ts) t rest → begins_atom (kind_of rest) ≡ false → Runs (app inner) (l ∷ ts) t rest
  unfolding app atoms atoms_from applied
  alone_runs {l = l} {ts = ts} {rest = rest} {t = t} m e =
      runs_then (λ at. atom inner >>= (λ head. atoms inner >>= (λ others. pure (applied at head others)))) (here_runs l ts)
      (runs_then _ m (runs_then _ (record { run = λ i is. (peek_no begins_atom (atom inner >>= (λ x. atoms_from inner (length i.ahead) ([] ++ x ∷ []))) e (pure_runs [] rest)).run i is }) (pure_runs t rest)))

  spine_runs : {l : Lexeme} {ts us rest : List Lexeme} {head y : Surface} {ys : List Surface} → Runs (atom inner) (l ∷ ts) head us → AtomsRun us y ys rest → Runs (app inner) (l ∷ ts) (node l.at (shape.App head (y ∷ ys))) rest
  unfolding app atoms applied
  spine_runs {l = l} {ts = ts} {us = us} {rest = rest} {head = head} {y = y} {ys = ys} m more =
      runs_then (λ at. atom inner >>= (λ head. atoms inner >>= (λ others. pure (applied at head others)))) (here_runs l ts)
      (runs_then _ m (runs_then _ (record { run = λ i is. (more (suc (length i.ahead)) [] (rw is (omega arith))).run i is }) (pure_runs (node l.at (shape.App head (y ∷ ys))) rest)))

  plain_runs : {l : Lexeme} {ts rest : List Lexeme} {t : Surface} → Runs (app inner) (l ∷ ts) t rest → is_kind (kind_of rest) k.Arrow ≡ false → Runs (arrows inner) (l ∷ ts) t rest
  unfolding arrows
  plain_runs {l = l} {ts = ts} {rest = rest} {t = t} m e =
      runs_then (λ at. app inner >>= (λ from. eat k.Arrow >>= (λ b. if b then (inner >>= (λ to. pure (node at (shape.Pi None from to)))) else pure from))) (here_runs l ts)
      (runs_then _ m (eat_no k.Arrow _ e (pure_runs t rest)))

  arrow_runs : {l a : Lexeme} {ts us rest : List Lexeme} {from to : Surface} → Runs (app inner) (l ∷ ts) from (a ∷ us) → a.kind ≡ k.Arrow → Runs inner us to rest → Runs (arrows inner) (l ∷ ts) (node l.at (shape.Pi None from to)) rest
  unfolding arrows
  arrow_runs {l = l} {a = a} {ts = ts} {rest = rest} {from = from} {to = to} m e n =
      runs_then (λ at. app inner >>= (λ from. eat k.Arrow >>= (λ b. if b then (inner >>= (λ to. pure (node at (shape.Pi None from to)))) else pure from))) (here_runs l ts)
      (runs_then _ m (eat_yes _ a e (runs_then _ n (pure_runs (node l.at (shape.Pi None from to)) rest))))

  whole_abstraction : {ts rest : List Lexeme} {t : Surface} → is_kind (kind_of ts) k.Fun ≡ true → Runs (abstraction inner) ts t rest → Runs (whole inner) ts t rest
  unfolding whole
  whole_abstraction e m = record { run = λ i is. let x = m.run i is in let seen : sees k.Fun i ≡ true = ap (λ ls. is_kind (kind_of ls) k.Fun) is ∙ e in (x.0, rw seen x.1, x.2) }

  whole_product : {ts rest : List Lexeme} {t : Surface} → is_kind (kind_of ts) k.Fun ≡ false → begins_binder ts ≡ true → Runs (product inner) ts t rest → Runs (whole inner) ts t rest
  unfolding whole
  whole_product e b m = record {
    run = λ i is.
        let x = m.run i is in
        let seen : sees k.Fun i ≡ false = ap (λ ls. is_kind (kind_of ls) k.Fun) is ∙ e in
        let bound : begins_binder i.ahead ≡ true = ap begins_binder is ∙ b in
        (x.0, rw (seen, bound) x.1, x.2);
  }

  whole_arrows : {ts rest : List Lexeme} {t : Surface} → is_kind (kind_of ts) k.Fun ≡ false → begins_binder ts ≡ false → Runs (arrows inner) ts t rest → Runs (whole inner) ts t rest
  unfolding whole
  whole_arrows e b m = record {
    run = λ i is.
        let x = m.run i is in
        let seen : sees k.Fun i ≡ false = ap (λ ls. is_kind (kind_of ls) k.Fun) is ∙ e in
        let bound : begins_binder i.ahead ≡ false = ap begins_binder is ∙ b in
        (x.0, rw (seen, bound) x.1, x.2);
  }

  -- the same where it is only known that an atom begins
  alone_at : (ts : List Lexeme) {rest : List Lexeme} {t : Surface} → begins_atom (kind_of ts) ≡ true → Runs (atom inner) ts t rest → begins_atom (kind_of rest) ≡ false → Runs (app inner) ts t rest
  alone_at [] b m e = absurd (false≢true b)
  alone_at (l ∷ ts) b m e = alone_runs m e

  spine_at : (ts : List Lexeme) {us rest : List Lexeme} {head y : Surface} {ys : List Surface} → begins_atom (kind_of ts) ≡ true → Runs (atom inner) ts head us → AtomsRun us y ys rest → Runs (app inner) ts (node (first ts) (shape.App head (y ∷ ys))) rest
  spine_at [] b m more = absurd (false≢true b)
  spine_at (l ∷ ts) b m more = spine_runs m more

  plain_at : (ts : List Lexeme) {rest : List Lexeme} {t : Surface} → begins_atom (kind_of ts) ≡ true → begins_binder ts ≡ false → Runs (app inner) ts t rest → is_kind (kind_of rest) k.Arrow ≡ false → Runs (whole inner) ts t rest
  plain_at [] b p m e = absurd (false≢true b)
  plain_at (l ∷ ts) b p m e = whole_arrows (not_fun _ b) p (plain_runs m e)

  arrow_at : (ts : List Lexeme) {a : Lexeme} {us rest : List Lexeme} {from to : Surface} → begins_atom (kind_of ts) ≡ true → begins_binder ts ≡ false → Runs (app inner) ts from (a ∷ us) → a.kind ≡ k.Arrow → Runs inner us to rest
      → Runs (whole inner) ts (node (first ts) (shape.Pi None from to)) rest
  arrow_at [] b p m e n = absurd (false≢true b)
  arrow_at (l ∷ ts) b p m e n = whole_arrows (not_fun _ b) p (arrow_runs m e n)

  star_runs : {l : Lexeme} (rest : List Lexeme) → l.kind ≡ k.Star → Runs (atom inner) (l ∷ rest) (node l.at shape.Star) rest
  star_runs {l = l} rest e = atom_of l k.Star e (runs_then (λ _. pure (node l.at shape.Star)) (take_runs l rest) (pure_runs (node l.at shape.Star) rest))

  wild_runs : {l : Lexeme} (rest : List Lexeme) → l.kind ≡ k.Wild → Runs (atom inner) (l ∷ rest) (node l.at shape.Wild) rest
  wild_runs {l = l} rest e = atom_of l k.Wild e (runs_then (λ _. pure (node l.at shape.Wild)) (take_runs l rest) (pure_runs (node l.at shape.Wild) rest))

  asked_runs : {l : Lexeme} (rest : List Lexeme) → l.kind ≡ k.Asked → Runs (atom inner) (l ∷ rest) (node l.at shape.Asked) rest
  asked_runs {l = l} rest e = atom_of l k.Asked e (runs_then (λ _. pure (node l.at shape.Asked)) (take_runs l rest) (pure_runs (node l.at shape.Asked) rest))

  named_runs : {l : Lexeme} (rest : List Lexeme) {x : Label} → IsLabel l x → Runs (atom inner) (l ∷ rest) (node l.at (shape.Named x)) rest
  named_runs {l = l} rest {x = x} (grammar.name e) = atom_of l k.Name e (runs_then (λ x. pure (node l.at (shape.Named x))) (label_runs rest (grammar.name e)) (pure_runs (node l.at (shape.Named x)) rest))
  named_runs {l = l} rest {x = x} (grammar.level e) = atom_of l k.Level e (runs_then (λ x. pure (node l.at (shape.Named x))) (label_runs rest (grammar.level e)) (pure_runs (node l.at (shape.Named x)) rest))

pub shrinks : {A : Type 0} {p : Parser A} {ts rest : List Lexeme} {a : A} → Shorter p → Runs p ts a rest → length rest < length ts
shrinks {ts = ts} {a = a} s m =
    let i : Input = record { at = 0; end = 0; ahead = ts } in
    let x = m.run i refl in
    omega (arith, s i a x.0 x.1, ap length x.2)

binder_begins : {d : ℕ} {ts rest : List Lexeme} {x : Label} {ty : Surface} → IsBinder d ts x ty rest → (is_kind (kind_of ts) k.Fun ≡ false) × (begins_binder ts ≡ true)
unfolding is_kind
binder_begins (grammar.binder eo (grammar.name en) ec t ez) = (rw eo refl, rw (eo, en, ec) refl)
binder_begins (grammar.binder eo (grammar.level en) ec t ez) = (rw eo refl, rw (eo, en, ec) refl)

-- a term does not begin with `)`
not_close : (t : Kind) → begins_atom t ≡ true → is_kind t k.Close ≡ false
unfolding is_kind
not_close k.Close e = absurd (false≢true e)
not_close _ e = refl

binder_opens : {d : ℕ} {ts rest : List Lexeme} {x : Label} {ty : Surface} → IsBinder d ts x ty rest → is_kind (kind_of ts) k.Close ≡ false
unfolding is_kind
binder_opens (grammar.binder eo en ec t ez) = rw eo refl

term_opens : {d : ℕ} {ts rest : List Lexeme} {t : Surface} → IsTerm d ts t rest → is_kind (kind_of ts) k.Close ≡ false
unfolding is_kind
term_opens (grammar.abstraction ef b ea m) = rw ef refl
term_opens (grammar.product b ea m) = binder_opens b
term_opens (grammar.arrow {ts = ts} p h e m) = not_close (kind_of ts) (app_begins h)
term_opens (grammar.application {ts = ts} p h) = not_close (kind_of ts) (app_begins h)

arguments_open : {d : ℕ} {ts rest : List Lexeme} {y : Surface} {ys : List Surface} → IsArguments d ts y ys rest → is_kind (kind_of ts) k.Close ≡ false
arguments_open (grammar.last_argument h) = term_opens h
arguments_open (grammar.more_arguments h ec more) = term_opens h

less_comma : (c : Lexeme) (us ts : List Lexeme) → length (c ∷ us) < length ts → length us < length ts
less_comma c us ts h = omega arith

term_step : (d : ℕ) {ts rest : List Lexeme} {t : Surface} → Runs (whole (term d)) ts t rest → Runs (term (suc d)) ts t rest
unfolding term
term_step d m = m

follows_close : (z : Lexeme) (rest : List Lexeme) → z.kind ≡ k.Close → Follows (z ∷ rest)
unfolding is_kind
follows_close z rest e = follows_kind z rest k.Close e refl refl

follows_comma : (z : Lexeme) (rest : List Lexeme) → z.kind ≡ k.Comma → Follows (z ∷ rest)
unfolding is_kind
follows_comma z rest e = follows_kind z rest k.Comma e refl refl

mutual
  pub term_runs : {d : ℕ} {ts rest : List Lexeme} {t : Surface} → IsTerm d ts t rest → Follows rest → Runs (term d) ts t rest
  term_runs (grammar.abstraction {d = d} {f = l} ef b ea m) f = term_step d (whole_abstraction d (term d) (term_shorter d) (sees_it l k.Fun ef) (abstraction_runs d (term d) (term_shorter d) ef (binder_run b) ea (term_runs m f)))
  term_runs (grammar.product {d = d} b ea m) f = term_step d (whole_product d (term d) (term_shorter d) (binder_begins b).0 (binder_begins b).1 (product_runs d (term d) (term_shorter d) (binder_run b) ea (term_runs m f)))
  term_runs (grammar.arrow {d = d} {a = a} {ts = ts} {us = us} p h e m) f = term_step d (arrow_at d (term d) (term_shorter d) ts (app_begins h) p (app_runs h (rw e refl)) e (term_runs m f))
  term_runs (grammar.application {d = d} {ts = ts} p h) f = term_step d (plain_at d (term d) (term_shorter d) ts (app_begins h) p (app_runs h f.no_atom) f.no_arrow)

  pub binder_run : {d : ℕ} {ts rest : List Lexeme} {x : Label} {ty : Surface} → IsBinder d ts x ty rest → Runs (binder (term d)) ts (x, ty) rest
  binder_run (grammar.binder {d = d} {e = z} {rest = rest} eo en ec t ez) = binder_runs d (term d) (term_shorter d) eo en ec (term_runs t (follows_close z rest ez)) ez

  app_runs : {d : ℕ} {ts rest : List Lexeme} {t : Surface} → IsApp d ts t rest → begins_atom (kind_of rest) ≡ false → Runs (app (term d)) ts t rest
  app_runs (grammar.alone {d = d} {ts = ts} h) e = alone_at d (term d) (term_shorter d) ts (atom_begins h) (atom_run h) e
  app_runs (grammar.spine {d = d} {ts = ts} h more) e = spine_at d (term d) (term_shorter d) ts (atom_begins h) (atom_run h) (atoms_run more e)

  atoms_run : {d : ℕ} {ts rest : List Lexeme} {y : Surface} {ys : List Surface} → IsAtoms d ts y ys rest → begins_atom (kind_of rest) ≡ false → AtomsRun d (term d) (term_shorter d) ts y ys rest
  atoms_run (grammar.last_atom {d = d} h) e = last_atom_runs d (term d) (term_shorter d) (atom_begins h) (atom_run h) (shrinks (atom_shorter (term d) (term_shorter d)) (atom_run h)) e
  atoms_run (grammar.more_atoms {d = d} h more) e = more_atoms_run d (term d) (term_shorter d) (atom_begins h) (atom_run h) (shrinks (atom_shorter (term d) (term_shorter d)) (atom_run h)) (atoms_run more e)

  atom_run : {d : ℕ} {ts rest : List Lexeme} {t : Surface} → IsAtom d ts t rest → Runs (atom (term d)) ts t rest
  atom_run (grammar.star {d = d} {rest = rest} e) = star_runs d (term d) (term_shorter d) rest e
  atom_run (grammar.wild {d = d} {rest = rest} e) = wild_runs d (term d) (term_shorter d) rest e
  atom_run (grammar.asked {d = d} {rest = rest} e) = asked_runs d (term d) (term_shorter d) rest e
  atom_run (grammar.named {d = d} {rest = rest} e) = named_runs d (term d) (term_shorter d) rest e
  atom_run (grammar.parentheses {d = d} {o = o} {e = z} {rest = rest} eo t ez) = atom_of d (term d) (term_shorter d) o k.Open eo (parenthesized_runs d (term d) (term_shorter d) eo (term_runs t (follows_close z rest ez)) ez)
  atom_run (grammar.bare {d = d} {n = n} en eo ez) = atom_of d (term d) (term_shorter d) n k.Call en (constant_runs d (term d) (term_shorter d) eo (no_arguments d (term d) (term_shorter d) ez))
  atom_run (grammar.constant {d = d} {n = n} {e = z} {rest = rest} en eo args ez) = atom_of d (term d) (term_shorter d) n k.Call en (constant_runs d (term d) (term_shorter d) eo (some_arguments d (term d) (term_shorter d) (arguments_open args) (arguments_run args z rest refl ez)))

  arguments_run : {d : ℕ} {ts us : List Lexeme} {y : Surface} {ys : List Surface} → IsArguments d ts y ys us → (z : Lexeme) (rest : List Lexeme) → us ≡ z ∷ rest → z.kind ≡ k.Close → ArgumentsRun d (term d) (term_shorter d) ts y ys rest
  arguments_run (grammar.last_argument {d = d} {ts = ts} {x = x} h) z rest e ez = last_argument_runs d (term d) (term_shorter d) (subst (λ ls. Runs (term d) ts x ls) e (term_runs h (subst (λ ls. Follows ls) (sym e) (follows_close z rest ez)))) ez
  arguments_run (grammar.more_arguments {d = d} {c = c} {us = us} h ec more) z rest e ez =
      let m = term_runs h (follows_comma c us ec) in
      more_arguments_run d (term d) (term_shorter d) m (less_comma c us _ (shrinks (term_shorter d) m)) ec (arguments_run more z rest e ez)

pub ends : Follows []
unfolding is_kind
ends = record { no_atom = refl; no_arrow = refl }

-- No other tree is the text: the reading decides.
pub one_tree : {d : ℕ} {ts : List Lexeme} {t u : Surface} → IsTerm d ts t [] → IsTerm d ts u [] → t ≡ u
one_tree {d = d} {ts = ts} {t = t} {u = u} h g =
    let i : Input = record { at = 0; end = 0; ahead = ts } in
    let x = (term_runs h ends).run i refl in
    let y = (term_runs g ends).run i refl in
    ap (λ (p : Surface × Input). p.0) (ok_inj (t, x.0) (u, y.0) (sym x.1 ∙ y.1))
