use Rattle.std.proofs.Common.{◌≡◌, ◌+◌, ◌-◌, ◌<◌, ◌≤◌, ◌++◌, length, take, min, arith, sym, ◌∙◌, ap, cond, vec_len, is_ok, true}
use Rattle.std.specs.Vec.{vec_capacity}
use Rattle.std.proofs.lemmas.Bool.{eqb-false}
use Rattle.std.proofs.lemmas.List.{length-take}
use Rattle.pan_io.proofs.KeptLemmas.{held_run}
use Rattle.pan_io.proofs.draft.Draft.extend.Goals as goal

pub returns : goal.returns
returns c =
    let i = c.self.inside in
    let run = c.args.run.now in
    let kept = c.min-kept.result in
    let not_none : length run ≡ 0 → ⊥ = eqb-false _ 0 (sym c.if-is_empty.ensures) in
    let some : 0 < length run = omega arith in
    let len : vec_len i.bytes ≡ length i.bytes.items = i.bytes.ok.0 in
    let short : length i.bytes.items ≤ 65537 = omega (arith, len, c.self.invariant.0) in
    let room : kept ≡ min (length run) (65537 - length i.bytes.items) = c.min-kept.ensures ∙ ap (λ n. min (length run) (65537 - n)) (c.len-room.ensures ∙ len) in
    let fits : vec_len i.bytes + length (take kept run) ≤ vec_capacity i.bytes = omega (arith, len, room, short, length-take kept run, c.self.invariant.1) in
    let done : is_ok c.extend_from_slice.result ≡ true = c.extend_from_slice.ensures.succeeds fits in
    let items : c.extend_from_slice.new.self.items ≡ i.bytes.items ++ take kept run =
    c.extend_from_slice.ensures.items ∙ ap (λ b. cond b (i.bytes.items ++ take kept run) i.bytes.items) done in
    λ raw held. rw items (held_run raw i.bytes.items run i.count i.last kept some short room (rw c.self.view_is held))
