use Rattle.std.proofs.Common.{◌≡◌, ◌-◌, ◌+◌, ◌<◌, ◌++◌, [], true, false, length, get_or, arith, ap, sym, ◌∙◌, subst, OnOk}
use Rattle.ld_terms.specs.Names.{level_name}
use Rattle.term_syntax.specs.Printing.{level_text}
use Rattle.term_text.proofs.Entries.{hidden, level_shown, name_shown, default_free}
use Rattle.term_text.proofs.print.put_variable.Goals as goal
use Rattle.term_text.proofs.print.put_variable.Goals.{then-level-names-via-then-level-names, then-level-names-via-else-level-names+then-is_hidden}

pub returns-then-level-names : goal.returns-then-level-names
returns-then-level-names c =
    let names = c.args.names.now in
    let level = c.saturating_sub-level.result in
    let is : c.saturating_sub-level.result ≡ c.args.below - (c.args.i + 1) = c.saturating_sub-level.ensures ∙ ap (λ n. c.args.below - (n + 1)) c.from.ensures in
    let unnamed : c.saturating_sub-level.result < length c.args.names.now → hidden c.args.names.now c.saturating_sub-level.result ≡ true = λ low. elim c.then-level-names.branch [
      | then-level-names-via-then-level-names w ↦ absurd (omega (arith, low, w.if-level-names.true))
      | then-level-names-via-else-level-names+then-is_hidden w ↦ sym w.is_hidden.ensures ∙ w.if-is_hidden.true
    ] in
    let shown : level_name c.saturating_sub-level.result ≡ level_text 0 c.args.names.now (c.args.below - (c.args.i + 1)) =
    sym (level_shown names level c.requires unnamed) ∙ ap (λ l. level_text 0 c.args.names.now l) is in
    subst (λ z. OnOk c.put_level.result (c.put_level.new.out.items ≡ c.args.out.now.items ++ z)) shown c.put_level.ensures

pub returns : goal.returns
returns c =
    let names = c.args.names.now in
    let level = c.saturating_sub-level.result in
    let is : c.saturating_sub-level.result ≡ c.args.below - (c.args.i + 1) = c.saturating_sub-level.ensures ∙ ap (λ n. c.args.below - (n + 1)) c.from.ensures in
    let low : c.saturating_sub-level.result < length c.args.names.now = omega (arith, c.if-level-names.false) in
    let seen : hidden c.args.names.now c.saturating_sub-level.result ≡ false = sym c.is_hidden.ensures ∙ c.if-is_hidden.false in
    let name : c.as_bytes.result.now ≡ get_or c.args.names.now c.saturating_sub-level.result [] = c.as_bytes.ensures ∙ c.index-names-level.is ∙ default_free names level _ [] low in
    let shown : c.as_bytes.result.now ≡ level_text 0 c.args.names.now (c.args.below - (c.args.i + 1)) =
    name ∙ sym (name_shown names level c.requires low seen) ∙ ap (λ l. level_text 0 c.args.names.now l) is in
    subst (λ z. OnOk c.put.result (c.put.new.out.items ≡ c.args.out.now.items ++ z)) shown c.put.ensures
