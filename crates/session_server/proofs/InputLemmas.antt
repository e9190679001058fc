-- What a history says of the whole input, and of its requests.
use Rattle.std.proofs.Common.{◌≡◌, ℕ, ◌<◌, ◌≤◌, ◌^◌, List, [], ◌∷◌, ◌++◌, length, take, refl, sym, ◌∙◌, ap, arith, append_assoc, append-nil, length-append, Option, None, Some, IfSome, ◌⊎◌, inl, inr, subst}
use Rattle.std.proofs.lemmas.Grind.{flat_map-append}
use Rattle.std.proofs.lemmas.List.{take_at}
use Rattle.std.specs.Io.KnownBytes.{Consumes, IsAtEnd}
use Rattle.pan_io.proofs.TextLemmas.{lines_behind as behind_whole}
use Rattle.pan_io.specs.Ahead.{ahead}
use Rattle.pan_io.specs.Text.{lines_of, whole_lines_of}
use Rattle.pan_io.specs.Reader.{Reader, before_it}
use Rattle.pan_io.specs.History.{History, Gave}
use Rattle.pan_io.specs.declared.taken.Stop.{Stop}
use Rattle.pan_io.specs.declared.taken.Stop.TheVariants.{Open, Ended, Faulted, Exceeded}
use Rattle.repl_json.specs.declared.request.Request.{Request}
use Rattle.session_server.specs.Input.{requests_of_line, requests_of_lines, requests_of_input}
use Rattle.session_server.specs.Session.{EntersOf}
use Rattle.session_server.specs.declared.run.End.TheVariants.{Done, ReadFault, WriteFault, Full, Long, Memory}

pub all_used : (b : List ℕ) (now : Option (List ℕ)) (seen : List ℕ) → Consumes (Some b) now seen → IsAtEnd now → b ≡ seen
all_used b None seen used at_end = absurd used
all_used b (Some ys) seen used at_end = used ∙ ap (λ l. seen ++ l) at_end ∙ append-nil seen

part_used : (b : List ℕ) (now : Option (List ℕ)) (seen : List ℕ) → Consumes (Some b) now seen → (ys : List ℕ) × (b ≡ seen ++ ys)
part_used b None seen used = absurd used
part_used b (Some ys) seen used = (ys, used)

pub none_waits : (b pending : List ℕ) (left : Option (List ℕ)) (t : List ℕ) → pending ≡ [] → Consumes (Some b) (ahead pending left) t → Consumes (Some b) left t
none_waits b pending None t e used = absurd used
none_waits b pending (Some ys) t e used = used ∙ ap (λ l. t ++ (l ++ ys)) e

pub some_wait : (b pending : List ℕ) (left : Option (List ℕ)) (t : List ℕ) → 0 < length pending → Consumes (Some b) (ahead pending left) t
    → (ys : List ℕ) × (b ≡ t ++ ys) × (0 < length ys)
some_wait b pending None t some used = absurd used
some_wait b pending (Some ys) t some used = (pending ++ ys, used, omega (arith, length-append pending ys))

pub all_consumed : (b pending : List ℕ) (left : Option (List ℕ)) (seen : List ℕ) → b ≡ seen → Consumes (Some b) (ahead pending left) seen → IsAtEnd (ahead pending left) → Consumes (Some b) left b
all_consumed b pending None seen all used at_end = absurd used
all_consumed b [] (Some ys) seen all used at_end = used ∙ ap (λ l. l ++ ys) (sym all)
all_consumed b (x ∷ pending) (Some ys) seen all used at_end = cc

-- the lines so far are the first ones of the input
pub rest_of_lines : (left : Option (List ℕ)) (b : List ℕ) (reader : Reader) (seen : List ℕ) (lines : List (List ℕ)) (stop : Stop)
    → Consumes (Some b) (before_it reader left) seen → Gave stop left reader seen lines → (stop ≡ Open) ⊎ (stop ≡ Ended)
    → (rest : List (List ℕ)) × (lines_of b ≡ lines ++ rest)
rest_of_lines left b reader seen lines Open used gave going =
    let part = part_used b (before_it reader left) seen used in
    (lines_of part.0, ap lines_of part.1 ∙ behind_whole seen part.0 gave.1 ∙ ap (λ l. l ++ lines_of part.0) (sym gave.0))
rest_of_lines left b reader seen lines Ended used gave going =
    ([], ap lines_of (all_used b (before_it reader left) seen used gave.1) ∙ sym gave.0 ∙ sym (append-nil lines))
rest_of_lines left b reader seen lines Faulted used gave (inl e) = cc
rest_of_lines left b reader seen lines Faulted used gave (inr e) = cc
rest_of_lines left b reader seen lines Exceeded used gave (inl e) = cc
rest_of_lines left b reader seen lines Exceeded used gave (inr e) = cc

-- ---- which requests of the input stand behind a line, and before an end

-- after a further line: the input's requests are those of the lines before, those of the line, and the rest
pub record HasTaken (start left : Option (List ℕ)) (reader : Reader) (lines : List (List ℕ)) (line : List ℕ) : Type 0 where
  pub seen : List ℕ
  pub history : History start left reader seen (lines ++ line ∷ [])
  pub going : (reader.stop ≡ Open) ⊎ (reader.stop ≡ Ended)

pub with_line : (lines : List (List ℕ)) (line : List ℕ) → requests_of_lines (lines ++ line ∷ []) ≡ requests_of_lines lines ++ requests_of_line line
with_line lines line = flat_map-append requests_of_line lines (line ∷ []) ∙ ap (λ l. requests_of_lines lines ++ l) (append-nil (requests_of_line line))

lines_behind : (b : List ℕ) (left : Option (List ℕ)) (reader : Reader) (lines : List (List ℕ)) (line : List ℕ) → HasTaken (Some b) left reader lines line
    → (rest : List (List ℕ)) × (lines_of b ≡ (lines ++ line ∷ []) ++ rest)
lines_behind b left reader lines line took =
    rest_of_lines left b reader took.seen (lines ++ line ∷ []) reader.stop took.history.consumed took.history.gave took.going

behind : (b : List ℕ) (left : Option (List ℕ)) (reader : Reader) (lines : List (List ℕ)) (line : List ℕ) → HasTaken (Some b) left reader lines line
    → (last : List Request) × (requests_of_input b ≡ (requests_of_lines lines ++ requests_of_line line) ++ last)
behind b left reader lines line took =
    let more = lines_behind b left reader lines line took in (
      requests_of_lines more.0,
      ap requests_of_lines more.1 ∙ flat_map-append requests_of_line (lines ++ line ∷ []) more.0 ∙ ap (λ l. l ++ requests_of_lines more.0) (with_line lines line),
    )

regroup : {A : Type 0} (a b c d : List A) → (a ++ (b ++ c)) ++ d ≡ (a ++ b) ++ (c ++ d)
regroup a b c d = simp append_assoc

pub write_enters : (start left : Option (List ℕ)) (reader : Reader) (lines : List (List ℕ)) (line : List ℕ) (requests first rest : List Request) → HasTaken start left reader lines line
    → requests_of_line line ≡ first ++ rest → requests ≡ requests_of_lines lines ++ first → IfSome start (λ b. EntersOf b left requests WriteFault)
write_enters None left reader lines line requests first rest took is entered = tt
write_enters (Some b) left reader lines line requests first rest took is entered =
    let more = behind b left reader lines line took in (
      rest ++ more.0,
      more.1 ∙ ap (λ l. (requests_of_lines lines ++ l) ++ more.0) is ∙ regroup (requests_of_lines lines) first rest more.0 ∙ ap (λ l. l ++ (rest ++ more.0)) (sym entered),
    )

pub full_enters : (start left : Option (List ℕ)) (reader : Reader) (lines : List (List ℕ)) (line : List ℕ) (requests first rest : List Request) (next : Request) (n : ℕ) → HasTaken start left reader lines line
    → requests_of_line line ≡ first ++ next ∷ rest → requests ≡ requests_of_lines lines ++ first → IfSome start (λ b. EntersOf b left requests (Full n))
full_enters None left reader lines line requests first rest next n took is entered = tt
full_enters (Some b) left reader lines line requests first rest next n took is entered =
    let more = behind b left reader lines line took in (
      next,
      rest ++ more.0,
      more.1 ∙ ap (λ l. (requests_of_lines lines ++ l) ++ more.0) is ∙ regroup (requests_of_lines lines) first (next ∷ rest) more.0 ∙ ap (λ l. l ++ (next ∷ rest ++ more.0)) (sym entered),
    )

pub memory_enters : (start left : Option (List ℕ)) (reader : Reader) (lines : List (List ℕ)) (line : List ℕ) (requests : List Request) → HasTaken start left reader lines line
    → requests ≡ requests_of_lines lines → IfSome start (λ b. EntersOf b left requests Memory)
memory_enters None left reader lines line requests took entered = tt
memory_enters (Some b) left reader lines line requests took entered =
    let more = lines_behind b left reader lines line took in
    (lines, line ∷ more.0, more.1 ∙ append_assoc lines (line ∷ []) more.0, entered)

pub nothing_enters : (start left : Option (List ℕ)) (requests : List Request) → requests ≡ [] → IfSome start (λ b. EntersOf b left requests Memory)
nothing_enters None left requests none = tt
nothing_enters (Some b) left requests none = ([], lines_of b, refl, none)

gave_at : (stop stop' : Stop) (left : Option (List ℕ)) (reader : Reader) (seen : List ℕ) (lines : List (List ℕ)) → stop ≡ stop' → Gave stop left reader seen lines → Gave stop' left reader seen lines
gave_at stop stop' left reader seen lines e g = subst (λ s. Gave s left reader seen lines) e g

pub done_enters : (start left : Option (List ℕ)) (reader : Reader) (seen : List ℕ) (lines : List (List ℕ)) (requests : List Request) → History start left reader seen lines → reader.stop ≡ Ended
    → reader.used ≤ 2 ^ 40 → requests ≡ requests_of_lines lines → IfSome start (λ b. EntersOf b left requests Done)
done_enters None left reader seen lines requests history ended most entered = tt
done_enters (Some b) left reader seen lines requests history ended most entered =
    let gave = gave_at reader.stop Ended left reader seen lines ended history.gave in
    let all : b ≡ seen = all_used b (before_it reader left) seen history.consumed gave.1 in (
      entered ∙ ap requests_of_lines (gave.0 ∙ ap lines_of (sym all)),
      all_consumed b reader.pending left seen all history.consumed gave.1,
      omega (arith, ap length all, history.counted),
    )

pub fault_enters : (start left : Option (List ℕ)) (reader : Reader) (seen : List ℕ) (lines : List (List ℕ)) (requests : List Request) → History start left reader seen lines → reader.stop ≡ Faulted
    → requests ≡ requests_of_lines lines → IfSome start (λ b. EntersOf b left requests ReadFault)
fault_enters None left reader seen lines requests history faulted entered = tt
fault_enters (Some b) left reader seen lines requests history faulted entered =
    let gave = gave_at reader.stop Faulted left reader seen lines faulted history.gave in
    (seen, none_waits b reader.pending left seen gave.1 history.consumed, entered ∙ ap requests_of_lines gave.0)

pub long_enters : (start left : Option (List ℕ)) (reader : Reader) (seen : List ℕ) (lines : List (List ℕ)) (requests : List Request) (n : ℕ) → History start left reader seen lines → reader.stop ≡ Exceeded
    → requests ≡ requests_of_lines lines → IfSome start (λ b. EntersOf b left requests (Long n))
long_enters None left reader seen lines requests n history exceeded entered = tt
long_enters (Some b) left reader seen lines requests n history exceeded entered =
    let gave = gave_at reader.stop Exceeded left reader seen lines exceeded history.gave in
    let long : length seen ≡ 2 ^ 40 = sym history.counted ∙ gave.1 in
    let (more, whole, some) = some_wait b reader.pending left seen gave.2 history.consumed in (
      omega (arith, length-append seen more, ap length whole),
      entered ∙ ap requests_of_lines (gave.0 ∙ ap whole_lines_of (sym (ap (take (2 ^ 40)) whole ∙ take_at seen more (2 ^ 40) long))),
    )
