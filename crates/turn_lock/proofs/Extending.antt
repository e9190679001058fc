-- Journals that go on from what was seen by entries of others.
use Rattle.std.proofs.Common.{◌≡◌, ℕ, ◌<◌, ◌≤◌, Bool, true, false, List, [], ◌∷◌, ◌++◌, length, refl, sym, ap, ◌∙◌, subst, inl, inr, ⊎_elim, arith, if◌then◌else◌, nat_lt, All, Contains}
use Rattle.std.proofs.lemmas.Bool.{ltb-true, ltb-false}
use Rattle.std.proofs.lemmas.List.{append_assoc, append-nil}
use Rattle.std.proofs.lemmas.List.Elements.{All-weaker, All-nil, All-push, Contains-append_left, Contains-append_right, Contains-append_cases}
use Rattle.turn_lock.specs.Journals.{DifferByOthers, ExtendsByOthers, IsByOthers, longer}
use Rattle.turn_lock.proofs.Lists.{All-back, All-front, beginnings, none_in_nil}

module _ {E : Type 0} (pass_of : E → ℕ) where
  -- who has seen nothing has no numbers to look for
  pub goes_none : (journal : List E) → ExtendsByOthers pass_of [] journal []
  goes_none journal = record { more = journal; is = refl; by_others = λ k d lt. none_in_nil _ }

  -- who has seen all
  pub goes_all : (seen journal : List E) (own : List ℕ) → seen ≡ journal → ExtendsByOthers pass_of seen journal own
  goes_all seen journal own is = record { more = []; is = append-nil seen ∙ is; by_others = All-nil (IsByOthers pass_of own) }

  -- another pass makes an entry
  pub goes_longer : (seen journal : List E) (own : List ℕ) (e : E) → (Contains own (pass_of e) → ⊥) → ExtendsByOthers pass_of seen journal own → ExtendsByOthers pass_of seen (journal ++ e ∷ []) own
  goes_longer seen journal own e not h = record {
    more = h.more ++ e ∷ [];
    is = sym (append_assoc seen h.more (e ∷ [])) ∙ ap (λ (l : List E). l ++ e ∷ []) h.is;
    by_others = All-push (IsByOthers pass_of own) h.more e h.by_others not;
  }

  -- entries of others are so for fewer numbers
  pub goes_for : (seen journal : List E) (own fewer : List ℕ) → ((n : ℕ) → Contains fewer n → Contains own n) → ExtendsByOthers pass_of seen journal own → ExtendsByOthers pass_of seen journal fewer
  goes_for seen journal own fewer f h = record { more = h.more; is = h.is; by_others = All-weaker (IsByOthers pass_of own) (IsByOthers pass_of fewer) (λ e not there. not (f (pass_of e) there)) h.more h.by_others }

  -- entries that neither of two passes made
  of_neither : (own others : List ℕ) (es : List E) → All (IsByOthers pass_of own) es → All (IsByOthers pass_of others) es → All (IsByOthers pass_of (own ++ others)) es
  of_neither own others es p q k d lt h = ⊎_elim (p k d lt) (q k d lt) (Contains-append_cases own others _ h)

  -- xs is the shorter
  shorter : (xs ys journal : List E) (own others : List ℕ) → ExtendsByOthers pass_of xs journal own → ExtendsByOthers pass_of ys journal others → length xs ≤ length ys → ExtendsByOthers pass_of xs ys own × ExtendsByOthers pass_of ys journal (own ++ others)
  shorter xs ys journal own others a b le =
      let t = beginnings xs ys a.more b.more (a.is ∙ sym b.is) le in
      let all : All (IsByOthers pass_of own) (t.0 ++ b.more) = subst (All (IsByOthers pass_of own)) t.2 a.by_others in (
        record { more = t.0; is = t.1; by_others = All-front (IsByOthers pass_of own) t.0 b.more all },
        record { more = b.more; is = b.is; by_others = of_neither own others b.more (All-back (IsByOthers pass_of own) t.0 b.more all) b.by_others },
      )

  -- the order of the numbers plays no part
  swapped : (own others : List ℕ) (ys journal : List E) → ExtendsByOthers pass_of ys journal (others ++ own) → ExtendsByOthers pass_of ys journal (own ++ others)
  swapped own others ys journal = goes_for ys journal (others ++ own) (own ++ others) turned
    where
      turned : (n : ℕ) → Contains (own ++ others) n → Contains (others ++ own) n
      turned n h = ⊎_elim (λ a. Contains-append_right others own n a) (λ b. Contains-append_left others own n b) (Contains-append_cases own others n h)

-- two views of one journal, and what the longer leaves
pub record Meets {E : Type 0} (pass_of : E → ℕ) (xs ys journal : List E) (own others : List ℕ) (zs : List E) : Type 0 where
  pub differ : DifferByOthers pass_of xs own ys others
  pub sees : ExtendsByOthers pass_of zs journal (own ++ others)
  pub long : length xs ≤ length zs

module _ {E : Type 0} (pass_of : E → ℕ) where
  -- two beginnings of one journal: the longer one stays
  pub meets : (xs ys journal : List E) (own others : List ℕ) → ExtendsByOthers pass_of xs journal own → ExtendsByOthers pass_of ys journal others → Meets pass_of xs ys journal own others (longer xs ys)
  meets xs ys journal own others a b = cases (nat_lt (length xs) (length ys)) refl
    where
      cases : (c : Bool) → nat_lt (length xs) (length ys) ≡ c → Meets pass_of xs ys journal own others (if c then ys else xs)
      cases true e =
          let lt : length xs < length ys = ltb-true _ _ e in
          let t = shorter pass_of xs ys journal own others a b (omega arith) in
          record { differ = inl t.0; sees = t.1; long = omega arith }
      cases false e =
          let le : length ys ≤ length xs = ltb-false _ _ e in
          let t = shorter pass_of ys xs journal others own b a le in
          record { differ = inr t.0; sees = swapped pass_of own others xs journal t.1; long = omega arith }
