-- Parts of a text, as relations between the tokens from a part on and those behind it; and tokens that are such a part, or begin one.
use Rattle.std.proofs.Common.{◌≡◌, inl, inr, ◌⊎◌, List, [], ◌∷◌, ◌++◌, refl, sym, append_assoc, subst}
use Rattle.term_syntax.specs.declared.kind.Kind.{Kind}
use Rattle.term_syntax.specs.Lex.{Lexeme}
use Rattle.refusal_places.specs.Places as places
use Rattle.refusal_places.specs.Places.{StandsAs, plain}

abbrev pub Part : Type 1
Part = List Lexeme → List Lexeme → Type 0

-- these tokens are such a part, whatever comes behind
pub record Fits (R : Part) (xs : List Lexeme) : Type 0 where
  pub before : (rest : List Lexeme) → R (xs ++ rest) rest

-- some tokens are such a part
pub record Exists (R : Part) : Type 0 where
  pub tokens : List Lexeme
  pub fits : Fits R tokens

-- with these tokens such a part begins
pub record Begun (R : Part) (xs : List Lexeme) : Type 0 where
  pub standing : List Lexeme
  pub stands : StandsAs xs standing
  pub others : List Lexeme
  pub fits : Fits R (standing ++ others)

-- one part behind another, a token of a kind, nothing at all, one or the other
pub record Then (R S : Part) (ts rest : List Lexeme) : Type 0 where
  pub between : List Lexeme
  pub first : R ts between
  pub second : S between rest

pub record Token (t : Kind) (ts rest : List Lexeme) : Type 0 where
  pub token : Lexeme
  pub kind : token.kind ≡ t
  pub tokens : ts ≡ token ∷ rest

pub record Nothing (ts rest : List Lexeme) : Type 0 where
  pub same : ts ≡ rest

pub record Either (R S : Part) (ts rest : List Lexeme) : Type 0 where
  pub choice : R ts rest ⊎ S ts rest

pub record Within (R S : Part) : Type 0 where
  pub run : (ts rest : List Lexeme) → R ts rest → S ts rest

pub fits_within : {R S : Part} {xs : List Lexeme} → Within R S → Fits R xs → Fits S xs
fits_within {xs = xs} w m = record { before = λ rest. w.run (xs ++ rest) rest (m.before rest) }

pub exists_within : {R S : Part} → Within R S → Exists R → Exists S
exists_within w m = record { tokens = m.tokens; fits = fits_within w m.fits }

pub begun_within : {R S : Part} {xs : List Lexeme} → Within R S → Begun R xs → Begun S xs
begun_within w m = record { standing = m.standing; stands = m.stands; others = m.others; fits = fits_within w m.fits }

pub fits_then : {R S : Part} (xs ys : List Lexeme) → Fits R xs → Fits S ys → Fits (Then R S) (xs ++ ys)
fits_then {R = R} {S = S} xs ys m n = record {
  before = λ rest. subst (λ ls. Then R S ls rest) (sym (append_assoc xs ys rest)) (record { between = ys ++ rest; first = m.before (ys ++ rest); second = n.before rest });
}

pub exists_then : {R S : Part} → Exists R → Exists S → Exists (Then R S)
exists_then m n = record { tokens = m.tokens ++ n.tokens; fits = fits_then m.tokens n.tokens m.fits n.fits }

-- what was begun is brought to its end, and then comes the second
pub begun_first : {R S : Part} (xs : List Lexeme) → Begun R xs → Exists S → Begun (Then R S) xs
begun_first {R = R} {S = S} xs m n = record {
  standing = m.standing;
  stands = m.stands;
  others = m.others ++ n.tokens;
  fits = subst (λ ls. Fits (Then R S) ls) (append_assoc m.standing m.others n.tokens) (fits_then (m.standing ++ m.others) n.tokens m.fits n.fits);
}

stands_behind : (xs : List Lexeme) {ys zs : List Lexeme} → StandsAs ys zs → StandsAs (xs ++ ys) (xs ++ zs)
stands_behind xs (places.same ys) = places.same (xs ++ ys)
stands_behind xs (places.plain_name ts l e) =
    subst (λ ls. StandsAs ls (xs ++ (ts ++ plain l ∷ []))) (append_assoc xs ts (l ∷ []))
    (subst (λ ls. StandsAs ((xs ++ ts) ++ l ∷ []) ls) (append_assoc xs ts (plain l ∷ [])) (places.plain_name (xs ++ ts) l e))

pub begun_second : {R S : Part} (xs ys : List Lexeme) → Fits R xs → Begun S ys → Begun (Then R S) (xs ++ ys)
begun_second {R = R} {S = S} xs ys m n = record {
  standing = xs ++ n.standing;
  stands = stands_behind xs n.stands;
  others = n.others;
  fits = subst (λ ls. Fits (Then R S) ls) (sym (append_assoc xs n.standing n.others)) (fits_then xs (n.standing ++ n.others) m n.fits);
}

-- at the front of what exists
pub begun_nothing : {R : Part} → Exists R → Begun R []
begun_nothing m = record { standing = []; stands = places.same []; others = m.tokens; fits = m.fits }

pub token_fits : {t : Kind} (l : Lexeme) → l.kind ≡ t → Fits (Token t) (l ∷ [])
token_fits l e = record { before = λ rest. record { token = l; kind = e; tokens = refl } }

-- a token of a kind, with no bytes
abbrev made : Kind → Lexeme
made t = record { kind = t; at = 0; text = [] }

pub token_exists : (t : Kind) → Exists (Token t)
token_exists t = record { tokens = made t ∷ []; fits = token_fits (made t) refl }

pub nothing_fits : Fits Nothing []
nothing_fits = record { before = λ rest. record { same = refl } }

pub nothing_exists : Exists Nothing
nothing_exists = record { tokens = []; fits = nothing_fits }

pub left_of : {R S : Part} → Within R (Either R S)
left_of = record { run = λ ts rest m. record { choice = inl m } }

pub right_of : {R S : Part} → Within S (Either R S)
right_of = record { run = λ ts rest m. record { choice = inr m } }
