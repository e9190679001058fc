-- The laws of Places.antt.
use Rattle.std.proofs.Common.{◌≡◌, ℕ, Bool, true, false, if◌then◌else◌, inl, inr, ◌⊎◌, List, [], ◌∷◌, ◌++◌, Ok, Err, min, length, refl, ap, sym, ◌∙◌, append_assoc, subst, arith, length-append}
use Rattle.std.proofs.lemmas.Bool.{false≢true}
use Rattle.std.proofs.lemmas.List.{append-nil}
use Rattle.term_syntax.specs.declared.surface.Surface.{Surface}
use Rattle.term_syntax.specs.Lex.{Lexeme, lexemes}
use Rattle.term_syntax.specs.Input.{Input, input_at, is_nil}
use Rattle.term_syntax.specs.Reading.{Parser, at_end, pure, refuse, ◌>>=◌, finish, term, read, read_at}
use Rattle.term_syntax.specs.Grammar.{IsTerm}
use Rattle.term_syntax.specs.Laws.{NoneContinues}
use Rattle.term_syntax.proofs.Local.{err_inj}
use Rattle.term_syntax.proofs.Loops.{cancel}
use Rattle.term_syntax.proofs.Complete.{term_runs, ends}
use Rattle.term_syntax.proofs.Whole.{local_term}
use Rattle.term_syntax.proofs.Refusals.{nothing_continues}
use Rattle.term_syntax.proofs.Texts.{read_complete}
use Rattle.refusal_places.specs.Places as places
use Rattle.refusal_places.specs.Places.{StandsAs, plain, Begins, IsTooDeep, BegunBefore, BeforeContinues, RefusedAtTheFirst, EndsEarly, RefusedAtTheFirstFrom}
use Rattle.refusal_places.proofs.Parts.{Begun, Fits}
use Rattle.refusal_places.proofs.Steps.{Doomed, deepens, bind_err}
use Rattle.refusal_places.proofs.Lines.{TermOf}
use Rattle.refusal_places.proofs.Terms.{term_begun, term_exact}

begins : {d : ℕ} {xs : List Lexeme} → Begun (TermOf d) xs → Begins d xs
begins {d = d} m =
    let got = m.fits.before [] in
    record { standing = m.standing; stands = m.stands; others = m.others; tree = got.tree; text = subst (λ ls. IsTerm d ls got.tree []) (append-nil (m.standing ++ m.others)) got.is }

-- a whole term begins itself
begins_whole : {d : ℕ} {xs : List Lexeme} → Fits (TermOf d) xs → Begins d xs
begins_whole {xs = xs} m = let got = m.before [] in record { standing = xs; stands = places.same xs; others = []; tree = got.tree; text = got.is }

-- ---- the limit

-- the last token is another one than that in the middle, or it is that
last_or : (ts : List Lexeme) (l : Lexeme) (front : List Lexeme) (last : Lexeme) (behind : List Lexeme) → ts ++ l ∷ [] ≡ front ++ last ∷ behind → (l ≡ last) ⊎ ((between : List Lexeme) × (ts ≡ front ++ last ∷ between))
last_or [] l [] last behind e = let same : l ≡ last = cc in inl same
last_or (t ∷ ts) l [] last behind e = let same : t ≡ last = cc in inr (ts, ap (λ x. x ∷ ts) same)
last_or [] l (f ∷ front) last behind e = absurd (omega (arith, ap (λ ls. length ls) e, length-append front (last ∷ behind)))
last_or (t ∷ ts) l (f ∷ front) last behind e =
    let same : t ≡ f = cc in
    let rest : ts ++ l ∷ [] ≡ front ++ last ∷ behind = cc in
    elim (last_or ts l front last behind rest) [ inl x ↦ inl x | inr x ↦ inr (x.0, ap (λ x. x ∷ ts) same ∙ ap (λ ls. f ∷ ls) x.1) ]

-- a token that counts one more is no name
pub still_deep : {xs standing : List Lexeme} → StandsAs xs standing → (front : List Lexeme) (last : Lexeme) (behind : List Lexeme) → xs ≡ front ++ last ∷ behind → deepens last.kind ≡ true → (rest : List Lexeme) × (standing ≡ front ++ last ∷ rest)
still_deep (places.same xs) front last behind e deep = (behind, e)
still_deep (places.plain_name ts l call) front last behind e deep = elim (last_or ts l front last behind e) [
  | inl same ↦ absurd (false≢true (sym (ap deepens (sym (ap (λ (l : Lexeme). l.kind) same) ∙ call)) ∙ deep))
  | inr x ↦ (x.0 ++ plain l ∷ [], ap (λ ls. ls ++ plain l ∷ []) x.1 ∙ append_assoc front (last ∷ x.0) (plain l ∷ []))
]

doomed_begins : {M : Type 0} {n d : ℕ} {xs : List Lexeme} → Doomed M n (term d) xs → Begins d xs → ⊥
doomed_begins m b =
    let x = still_deep b.stands m.front m.last m.behind m.tokens m.deep in
    let j : Input = record { at = 0; end = 0; ahead = b.standing ++ b.others } in
    let no = m.fails j (x.0 ++ b.others) (ap (λ ls. ls ++ b.others) x.1 ∙ append_assoc m.front (m.last ∷ x.0) b.others) in
    let yes = (term_runs b.text ends).run j refl in
    let clash = sym yes.1 ∙ no.1 in
    cc clash

refused : (i j : Input) → term 512 i ≡ Err j → BegunBefore i.ahead j
refused i j e =
    let x = ((term_exact 511).at i).err j e in
    let y = ((term_begun 512).at i).err j e in
    let same : y.taken ≡ x.taken = cancel y.taken x.taken j.ahead (sym y.ahead ∙ x.ahead) in
    let deeper : Begins 513 x.taken = elim y.why [ inl b ↦ subst (λ ls. Begins 513 ls) same (begins b) | inr d ↦ absurd d.may ] in
    (x.taken, x.ahead, elim x.why [ inl b ↦ inl (begins b) | inr d ↦ inr (deeper, doomed_begins d) ])

abbrev ending : Surface → Parser Surface
ending t = at_end >>= (λ over. if over then pure t else refuse)

ending_ends : (t : Surface) (j : Input) → is_nil j.ahead ≡ true → ending t j ≡ Ok (t, j)
ending_ends t j e = rw e refl

ending_stops : (t : Surface) (j : Input) → is_nil j.ahead ≡ false → ending t j ≡ Err j
ending_stops t j e = rw e refl

ending_stays : (t : Surface) (i j : Input) → ending t i ≡ Err j → (b : Bool) → is_nil i.ahead ≡ b → i ≡ j
ending_stays t i j e true is = let clash = sym (ending_ends t i is) ∙ e in cc clash
ending_stays t i j e false is = err_inj {A = Surface} i j (sym (ending_stops t i is) ∙ e)

pub before_continues : BeforeContinues
unfolding read finish
before_continues text i e = elim (bind_err (term 512 (input_at text 0)) ending i e) [
  | inl x ↦
      let w = ((term_exact 511).at (input_at text 0)).ok x.0.0 x.0.1 x.1 in
      let same : x.0.1 ≡ i = ending_stays x.0.0 x.0.1 i x.2 (is_nil x.0.1.ahead) refl in
      (w.taken, w.ahead ∙ ap (λ (j : Input). w.taken ++ j.ahead) same, inl (begins_whole w.fits))
  | inr bad ↦ refused (input_at text 0) i bad
]

pub refused_at_the_first : RefusedAtTheFirst
refused_at_the_first text i e =
    let x = before_continues text i e in
    let y = nothing_continues text i e in
    let same : y.0 ≡ x.0 = cancel y.0 x.0 i.ahead (sym y.1 ∙ x.1) in
    (x, subst (λ ls. NoneContinues ls i.ahead) same y.2)

pub ends_early : EndsEarly
ends_early text i e over =
    let x = before_continues text i e in
    let all : x.0 ≡ lexemes 0 text = sym (x.1 ∙ ap (λ ls. x.0 ++ ls) over ∙ append-nil x.0) in
    (subst (λ ls. Begins 512 ls ⊎ IsTooDeep 512 ls) all x.2, λ t is. let yes = read_complete text t is in let clash = sym yes.1 ∙ e in cc clash)

pub refused_at_the_first_from : RefusedAtTheFirstFrom
unfolding read_at
refused_at_the_first_from text at i e =
    let start : Input = input_at text (min at (length text)) in
    let x = refused start i e in
    let y = (local_term 512).err start i e in
    let same : y.0 ≡ x.0 = cancel y.0 x.0 i.ahead (sym y.1 ∙ x.1) in
    let none : NoneContinues y.0 i.ahead = λ l behind others is t h.
    let j : Input = record { at = 0; end = 0; ahead = y.0 ++ l ∷ others } in
    let no = y.2 j (l ∷ others) (l, others, behind, refl, is) refl in
    let yes = (term_runs h ends).run j refl in
    let clash = sym yes.1 ∙ no.1 in
    cc clash in
    (x, subst (λ ls. NoneContinues ls i.ahead) same none)
