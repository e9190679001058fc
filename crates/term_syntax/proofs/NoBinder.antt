-- What begins with an atom begins with no binder.
use Rattle.std.proofs.Common.{◌≡◌, ℕ, Bool, true, false, ◌&&◌, ◌||◌, List, [], ◌∷◌, refl, ap, sym, ◌∙◌}
use Rattle.std.proofs.lemmas.Bool.{false≢true}
use Rattle.term_syntax.specs.declared.surface.Surface.{Surface}
use Rattle.term_syntax.specs.declared.kind.Kind.TheVariants as k
use Rattle.term_syntax.specs.Lex.{Lexeme}
use Rattle.term_syntax.specs.Kinds.{is_kind}
use Rattle.term_syntax.specs.Input.{begins_binder, kind_of}
use Rattle.term_syntax.specs.Reading.{begins_atom}
use Rattle.term_syntax.specs.Grammar as grammar
use Rattle.term_syntax.specs.Grammar.{IsTerm, IsApp, IsAtom}
use Rattle.term_syntax.proofs.Complete.{atoms_begin}
use Rattle.term_syntax.proofs.Sound.{same_kind}

begins_atom_colon : (c : Lexeme) → is_kind c.kind k.Colon ≡ true → begins_atom c.kind ≡ true → ⊥
begins_atom_colon c e b = false≢true (let q : begins_atom c.kind ≡ false = rw (same_kind c.kind k.Colon e) refl in sym q ∙ b)

arrow_colon : (c : Lexeme) → is_kind c.kind k.Colon ≡ true → c.kind ≡ k.Arrow → ⊥
arrow_colon c e a = let q = sym (same_kind c.kind k.Colon e) ∙ a in cc

-- an atom that is a name takes one token
label_atom : {d : ℕ} {n : Lexeme} {ts rest : List Lexeme} {t : Surface} → (is_kind n.kind k.Name || is_kind n.kind k.Level) ≡ true → IsAtom d (n ∷ ts) t rest → ts ≡ rest
unfolding is_kind
label_atom e (grammar.star h) = absurd (false≢true (rw h at e))
label_atom e (grammar.wild h) = absurd (false≢true (rw h at e))
label_atom e (grammar.asked h) = absurd (false≢true (rw h at e))
label_atom e (grammar.named h) = refl
label_atom e (grammar.parentheses h t z) = absurd (false≢true (rw h at e))
label_atom e (grammar.bare h o z) = absurd (false≢true (rw h at e))
label_atom e (grammar.constant h o a z) = absurd (false≢true (rw h at e))

-- A term that begins with a name and a colon ends before the colon.
name_colon : {d : ℕ} {n c : Lexeme} {ts rest : List Lexeme} {t : Surface} → (is_kind n.kind k.Name || is_kind n.kind k.Level) ≡ true → is_kind c.kind k.Colon ≡ true → IsApp d (n ∷ c ∷ ts) t rest → c ∷ ts ≡ rest
name_colon e f (grammar.alone h) = label_atom e h
name_colon {c = c} e f (grammar.spine h more) = absurd (begins_atom_colon c f (rw (ap kind_of (label_atom e h)) (atoms_begin more)))

term_name_colon : {d : ℕ} {n c : Lexeme} {ts rest : List Lexeme} {t : Surface} → (is_kind n.kind k.Name || is_kind n.kind k.Level) ≡ true → is_kind c.kind k.Colon ≡ true → IsTerm d (n ∷ c ∷ ts) t rest → c ∷ ts ≡ rest
unfolding is_kind
term_name_colon e f (grammar.abstraction h b a m) = absurd (false≢true (rw h at e))
term_name_colon e f (grammar.product (grammar.binder h x y t z) a m) = absurd (false≢true (rw h at e))
term_name_colon {c = c} e f (grammar.arrow p h a m) = absurd (arrow_colon c f (let q = name_colon e f h in rw (ap (λ ls. kind_of ls) q) a))
term_name_colon e f (grammar.application p h) = name_colon e f h

both : (a b : Bool) → (a && b) ≡ true → (a ≡ true) × (b ≡ true)
both true true e = (refl, refl)
both true false e = absurd (false≢true e)
both false b e = absurd (false≢true e)

not_true : (b : Bool) → (b ≡ true → ⊥) → b ≡ false
not_true true h = absurd (h refl)
not_true false h = refl

no_label : (is_kind k.End k.Name || is_kind k.End k.Level) ≡ true → ⊥
unfolding is_kind
no_label e = false≢true e

no_end_colon : is_kind k.End k.Colon ≡ true → ⊥
unfolding is_kind
no_end_colon e = false≢true e

inside_name : {d : ℕ} (ts : List Lexeme) {e : Lexeme} {rest : List Lexeme} {t : Surface} (o : Lexeme) → IsTerm d ts t (e ∷ rest) → e.kind ≡ k.Close → begins_binder (o ∷ ts) ≡ true → ⊥
inside_name [] o h z b = no_label (both _ _ (both _ _ b).0).1
inside_name (n ∷ []) o h z b = no_end_colon (both _ _ b).1
inside_name (n ∷ c ∷ us) o h z b =
    let p = both _ _ b in
    let q = term_name_colon (both _ _ p.0).1 p.1 h in
    let colon = same_kind c.kind k.Colon p.1 in
    let close : c.kind ≡ k.Close = ap kind_of q ∙ z in
    let r = sym colon ∙ close in cc

atom_no_binder : {d : ℕ} {ts rest : List Lexeme} {t : Surface} → IsAtom d ts t rest → begins_binder ts ≡ false
unfolding is_kind
atom_no_binder (grammar.star h) = rw h refl
atom_no_binder (grammar.wild h) = rw h refl
atom_no_binder (grammar.asked h) = rw h refl
atom_no_binder (grammar.named (grammar.name h)) = rw h refl
atom_no_binder (grammar.named (grammar.level h)) = rw h refl
atom_no_binder (grammar.parentheses {o = o} {ts = ts} h t z) = not_true _ (inside_name ts o t z)
atom_no_binder (grammar.bare h o z) = rw h refl
atom_no_binder (grammar.constant h o a z) = rw h refl

pub app_no_binder : {d : ℕ} {ts rest : List Lexeme} {t : Surface} → IsApp d ts t rest → begins_binder ts ≡ false
app_no_binder (grammar.alone h) = atom_no_binder h
app_no_binder (grammar.spine h more) = atom_no_binder h
