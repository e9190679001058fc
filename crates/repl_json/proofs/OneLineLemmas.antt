-- Replies are single lines, and only one kind of them is a memory line.
use Rattle.std.proofs.Common.{◌≡◌, ℕ, zero, suc, ◌+◌, ◌/◌, ◌%◌, ◌==◌, Bool, true, false, cond, not, ◌&&◌, nat_lt, List, [], ◌∷◌, ◌++◌, Some, None, codes, decimal, refl, sym, ◌∙◌, ap, subst, arith, append_assoc, eqb-true, eq-eqb, ne_eqb, drop, get_or}
use Rattle.std.specs.Prelude.{flat_map}
use Rattle.std.specs.Char.{digit_char}
use Rattle.std.specs.Fmt.{digits, digits_onto, digit_glyph}
use Rattle.json.specs.Print.{escape_byte, escape_letter, quoted}
use Rattle.pan_io.specs.Text.{is_line_end}
use Rattle.repl_json.specs.Bad.{bad_body}
use Rattle.repl_json.specs.Reply.{text, counted_text, text_around}
use Rattle.repl_json.specs.OneLine.{is_unbroken, IsLine, memory_front, memory_line, differ, IsReply, HasReply, says_memory}
use Rattle.repl_json.specs.declared.reply.Body.{Body}
use Rattle.repl_json.specs.declared.reply.Line.{Line}
use Rattle.repl_json.specs.declared.reply.Line.TheVariants.{Given, Ahead, UnknownEnv, UnknownState, Deleted, Reset, Stat, Memory}
use Rattle.repl_json.specs.declared.request.Bad.{Bad}
use Rattle.repl_json.specs.declared.request.Bad.TheVariants as bad

-- ---- bytes without a line end

both : (a b : Bool) → a ≡ true → b ≡ true → (a && b) ≡ true
both true b p q = q
both false b p q = p

and_left : (a b : Bool) → (a && b) ≡ true → a ≡ true
and_left true b p = refl
and_left false b p = p

and_right : (a b : Bool) → (a && b) ≡ true → b ≡ true
and_right true b p = p
and_right false b p = absurd cc

pub unbroken-append : (xs ys : List ℕ) → is_unbroken xs ≡ true → is_unbroken ys ≡ true → is_unbroken (xs ++ ys) ≡ true
unbroken-append [] ys p q = q
unbroken-append (x ∷ xs) ys p q =
    both (not (is_line_end x)) (is_unbroken (xs ++ ys)) (and_left (not (is_line_end x)) (is_unbroken xs) p) (unbroken-append xs ys (and_right (not (is_line_end x)) (is_unbroken xs) p) q)

pub unbroken-flat_map : {X : Type 0} (f : X → List ℕ) → ((x : X) → is_unbroken (f x) ≡ true) → (xs : List X) → is_unbroken (flat_map f xs) ≡ true
unbroken-flat_map f h [] = refl
unbroken-flat_map f h (x ∷ xs) = unbroken-append (f x) (flat_map f xs) (h x) (unbroken-flat_map f h xs)

-- a choice of two such texts is one
either : (b : Bool) (xs ys : List ℕ) → is_unbroken xs ≡ true → is_unbroken ys ≡ true → is_unbroken (cond b xs ys) ≡ true
either true xs ys p q = p
either false xs ys p q = q

-- and of two such bytes
either_byte : (b : Bool) (x y : ℕ) → not (is_line_end x) ≡ true → not (is_line_end y) ≡ true → not (is_line_end (cond b x y)) ≡ true
either_byte true x y p q = p
either_byte false x y p q = q

one_byte : (x : ℕ) (xs : List ℕ) → not (is_line_end x) ≡ true → is_unbroken xs ≡ true → is_unbroken (x ∷ xs) ≡ true
one_byte x xs p q = both (not (is_line_end x)) (is_unbroken xs) p q

no_end : (x : ℕ) → (x ≡ 10 → ⊥) → not (is_line_end x) ≡ true
no_end x h = ap not (ne_eqb x 10 h)

-- ---- digits

glyph_unbroken : (d : ℕ) → not (is_line_end (digit_glyph false d)) ≡ true
glyph_unbroken d = either_byte (nat_lt d 10) (48 + d) (87 + d) (no_end (48 + d) (λ e. omega (arith, e))) (no_end (87 + d) (λ e. omega (arith, e)))

digits_unbroken : (k n : ℕ) (acc : List ℕ) → is_unbroken acc ≡ true → is_unbroken (digits_onto k 10 false n acc) ≡ true
digits_unbroken zero n acc h = h
digits_unbroken (suc k) n acc h =
    let more = one_byte (digit_glyph false (n % 10)) acc (glyph_unbroken (n % 10)) h in
    either (n / 10 == 0) (digit_glyph false (n % 10) ∷ acc) (digits_onto k 10 false (n / 10) (digit_glyph false (n % 10) ∷ acc)) more (digits_unbroken k (n / 10) (digit_glyph false (n % 10) ∷ acc) more)

pub unbroken-decimal : (n : ℕ) → is_unbroken (decimal n) ≡ true
unfolding digits
unbroken-decimal n = digits_unbroken 64 n [] refl

-- ---- JSON strings

digit_unbroken : (d : ℕ) → not (is_line_end (digit_char d)) ≡ true
digit_unbroken d = either_byte (nat_lt d 10) (48 + d) (87 + d) (no_end (48 + d) (λ e. omega (arith, e))) (no_end (87 + d) (λ e. omega (arith, e)))

letter_unbroken : (x : ℕ) → not (is_line_end x) ≡ true → not (is_line_end (escape_letter x)) ≡ true
letter_unbroken x h =
    either_byte _ x _ h (either_byte (x == 8) 98 _ refl (either_byte (x == 12) 102 _ refl (either_byte (x == 10) 110 _ refl (either_byte (x == 13) 114 _ refl (either_byte (x == 9) 116 0 refl refl)))))

other_escape : (x : ℕ) → not (is_line_end x) ≡ true → is_unbroken (escape_byte x) ≡ true
unfolding escape_byte
other_escape x h =
    either (nat_lt 0 (escape_letter x)) (92 ∷ escape_letter x ∷ []) _ (one_byte (escape_letter x) [] (letter_unbroken x h) refl)
    (either (nat_lt x 32) (92 ∷ 117 ∷ 48 ∷ 48 ∷ digit_char (x / 16) ∷ digit_char (x % 16) ∷ []) (x ∷ [])
    (one_byte (digit_char (x / 16)) (digit_char (x % 16) ∷ []) (digit_unbroken (x / 16)) (one_byte (digit_char (x % 16)) [] (digit_unbroken (x % 16)) refl))
    (one_byte x [] h refl))

end_escape : is_unbroken (escape_byte 10) ≡ true
unfolding escape_byte
end_escape = refl

escape_unbroken : (x : ℕ) → is_unbroken (escape_byte x) ≡ true
escape_unbroken x = by (is_line_end x) refl where
  by : (b : Bool) → is_line_end x ≡ b → is_unbroken (escape_byte x) ≡ true
  by true e = subst (λ y. is_unbroken (escape_byte y) ≡ true) (sym (eqb-true x 10 e)) end_escape
  by false e = other_escape x (ap not e)

pub unbroken-quoted : (s : List ℕ) → is_unbroken (quoted s) ≡ true
unbroken-quoted s = unbroken-append (flat_map escape_byte s) (34 ∷ []) (unbroken-flat_map escape_byte escape_unbroken s) refl

-- ---- texts that differ at a place that both have

pub differ_apart : (xs ys us vs : List ℕ) → differ xs ys ≡ true → xs ++ us ≡ ys ++ vs → ⊥
differ_apart [] ys us vs d e = absurd cc
differ_apart (x ∷ xs) [] us vs d e = absurd cc
differ_apart (x ∷ xs) (y ∷ ys) us vs d e = by (λ d. differ_apart xs ys us vs d (ap (drop 1) e)) (x == y) refl d where
  by : (differ xs ys ≡ true → ⊥) → (b : Bool) → (x == y) ≡ b → cond b (differ xs ys) true ≡ true → ⊥
  by later true q d = later d
  by later false q d = absurd (let same : x ≡ y = ap (λ l. get_or l 0 0) e in let t : (x == y) ≡ true = eq-eqb x y same in cc)

-- ---- the texts of replies

-- some line with its end
abbrev HasLine : List ℕ → Type 0
HasLine bytes = (line : List ℕ) × IsLine bytes line

behind : (front bytes : List ℕ) → is_unbroken front ≡ true → HasLine bytes → HasLine (front ++ bytes)
behind front bytes u (line, l) = (front ++ line, record { is = ap (λ b. front ++ b) l.is ∙ sym (append_assoc front line (10 ∷ [])); unbroken = unbroken-append front line u l.unbroken })

behind_number : (n : ℕ) (bytes : List ℕ) → HasLine bytes → HasLine (decimal n ++ bytes)
behind_number n bytes l = behind (decimal n) bytes (unbroken-decimal n) l

end_of_object : HasLine (codes "}\n" ++ [])
end_of_object = (125 ∷ [], record { is = refl; unbroken = refl })

end_of_line : HasLine (codes "\n" ++ [])
end_of_line = ([], record { is = refl; unbroken = refl })

counted : (front : List ℕ) (n seq : ℕ) → is_unbroken front ≡ true → HasLine (counted_text front n seq)
counted front n seq u = behind front _ u (behind_number n _ (behind (codes ",\"seq\":") _ refl (behind_number seq _ end_of_object)))

around : (body : Body) (one two : ℕ) → IsReply body → HasLine (text_around body one two)
around body one two h = behind body.first _ h.first (behind_number one _ (behind body.second _ h.second (behind_number two _ (behind body.third _ h.third end_of_line))))

by_id : (b : Bool) (body : Body) (seq id : ℕ) → IsReply body → HasLine (cond b (text_around body id seq) (text_around body seq id))
by_id true body seq id h = around body id seq h
by_id false body seq id h = around body seq id h

pub reply_line : (reply : Line) → HasReply reply → HasLine (text reply)
unfolding text
reply_line (Given body seq None) h = behind body.first _ h.first (behind_number seq _ (behind body.second _ h.second (behind body.third _ h.third end_of_line)))
reply_line (Given body seq (Some id)) h = by_id body.id_first body seq id h
reply_line (Ahead length seq) h = counted (codes "{\"error\":\"ahead\",\"length\":") length seq refl
reply_line (UnknownEnv id seq) h = counted (codes "{\"error\":\"unknownEnv\",\"id\":") id seq refl
reply_line (UnknownState id seq) h = counted (codes "{\"error\":\"unknownState\",\"id\":") id seq refl
reply_line (Deleted id seq) h = counted (codes "{\"deleted\":") id seq refl
reply_line (Reset deleted seq) h = counted (codes "{\"deleted\":") deleted seq refl
reply_line (Stat envs live seq states) h =
    behind (codes "{\"envs\":") _ refl (behind_number envs _ (behind (codes ",\"live\":") _ refl (behind_number live _
    (behind (codes ",\"seq\":") _ refl (behind_number seq _ (behind (codes ",\"states\":") _ refl (behind_number states _ end_of_object)))))))
reply_line (Memory seq) h = behind memory_front _ refl (behind_number seq _ end_of_object)

-- ---- the memory line

pub memory_text : (seq : ℕ) → text (Memory seq) ≡ memory_line seq ++ 10 ∷ []
unfolding text
memory_text seq = sym (append_assoc memory_front (decimal seq ++ codes "}") (10 ∷ []) ∙ ap (λ l. memory_front ++ l) (append_assoc (decimal seq) (codes "}") (10 ∷ [])))

other_text : (front rest : List ℕ) (seq : ℕ) → differ front memory_front ≡ true → front ++ rest ≡ memory_line seq ++ 10 ∷ [] → ⊥
other_text front rest seq d e = differ_apart front memory_front rest ((decimal seq ++ codes "}") ++ 10 ∷ []) d (e ∙ append_assoc memory_front (decimal seq ++ codes "}") (10 ∷ []))

other_by_id : (b : Bool) (body : Body) (seq id n : ℕ) → IsReply body → cond b (text_around body id seq) (text_around body seq id) ≡ memory_line n ++ 10 ∷ [] → ⊥
other_by_id true body seq id n h e = other_text body.first _ n h.other e
other_by_id false body seq id n h e = other_text body.first _ n h.other e

pub only_memory : (reply : Line) (n : ℕ) → HasReply reply → text reply ≡ memory_line n ++ 10 ∷ [] → says_memory reply ≡ true
unfolding text
only_memory (Given body seq None) n h e = absurd (other_text body.first _ n h.other e)
only_memory (Given body seq (Some id)) n h e = absurd (other_by_id body.id_first body seq id n h e)
only_memory (Ahead length seq) n h e = absurd (other_text (codes "{\"error\":\"ahead\",\"length\":") _ n refl e)
only_memory (UnknownEnv id seq) n h e = absurd (other_text (codes "{\"error\":\"unknownEnv\",\"id\":") _ n refl e)
only_memory (UnknownState id seq) n h e = absurd (other_text (codes "{\"error\":\"unknownState\",\"id\":") _ n refl e)
only_memory (Deleted id seq) n h e = absurd (other_text (codes "{\"deleted\":") _ n refl e)
only_memory (Reset deleted seq) n h e = absurd (other_text (codes "{\"deleted\":") _ n refl e)
only_memory (Stat envs live seq states) n h e = absurd (other_text (codes "{\"envs\":") _ n refl e)
only_memory (Memory seq) n h e = refl

-- ---- the replies to lines that are no requests

pub bad_is_reply : (b : Bad) → IsReply (bad_body b)
unfolding bad_body
bad_is_reply (bad.LineTooLong length) = record {
  other = refl;
  first = unbroken-append (codes "{\"error\":\"lineTooLong\",\"length\":" ++ decimal length) (codes ",\"seq\":") (unbroken-append (codes "{\"error\":\"lineTooLong\",\"length\":") (decimal length) refl (unbroken-decimal length)) refl;
  second = refl;
  third = refl;
}
bad_is_reply bad.Json = record { other = refl; first = refl; second = refl; third = refl }
bad_is_reply bad.Command = record { other = refl; first = refl; second = refl; third = refl }
bad_is_reply (bad.Field name) = record {
  other = refl;
  first = unbroken-append (codes "{\"error\":\"field\",\"field\":" ++ quoted name) (codes ",\"seq\":") (unbroken-append (codes "{\"error\":\"field\",\"field\":") (quoted name) refl (unbroken-quoted name)) refl;
  second = refl;
  third = refl;
}
