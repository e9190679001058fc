use Rattle.std.proofs.Common.{rules, ◌≡◌, ◌∙◌, Some, None, sym, ap, map, subst as transport}
use Rattle.ld_terms.specs.Views.{terms_of}
use Rattle.conversion.specs.Globals.{AreLocals, context_of}
use Rattle.conversion.proofs.Lookups.{item_found_held, decl_found_held}
use Rattle.kernel_check.proofs.Signatures.{constant_signature, meta_signature}
use Rattle.kernel_check.proofs.signature.signature_of.Goals as goal

pub returns-in-Some-clause-signature : goal.returns-in-Some-clause-signature
returns-in-Some-clause-signature g c =
    let m = g.T.Terms.means c.args.terms.now in
    let is = g.G.Globals.items c.args.globals.now in
    let ds = g.G.Globals.metas c.args.globals.now in
    let i = c.in-Some.item.now in
    let q : c.as_slice.result.now ≡ i.params = search rules in
    ap (λ l. Some (context_of m l, m i.ty)) q ∙ constant_signature m is ds c.in-Const.name.now (terms_of (map m c.in-Const.field-1.now)) (m c.args.h) (Some i) c.in-Some.ensures c.in-Const.ensures.tree

pub returns-in-Some-clause-held : goal.returns-in-Some-clause-held
returns-in-Some-clause-held g c =
    let h = g.T.Terms.holds c.args.terms.now in
    let i = c.in-Some.item.now in
    let q : c.as_slice.result.now ≡ i.params = search rules in
    let held = item_found_held h (g.G.Globals.items c.args.globals.now) c.in-Const.name.now i c.requires.globals.items_held (sym c.in-Some.ensures) in
    (transport (AreLocals h) (sym q) held.params, held.ty)

pub returns-in-None-clause-signature : goal.returns-in-None-clause-signature
returns-in-None-clause-signature g c =
    let m = g.T.Terms.means c.args.terms.now in
    constant_signature m (g.G.Globals.items c.args.globals.now) (g.G.Globals.metas c.args.globals.now) c.in-Const.name.now (terms_of (map m c.in-Const.field-1.now)) (m c.args.h) None c.in-None.ensures c.in-Const.ensures.tree

pub returns-in-Some-meta-clause-signature : goal.returns-in-Some-meta-clause-signature
returns-in-Some-meta-clause-signature g c =
    let m = g.T.Terms.means c.args.terms.now in
    let is = g.G.Globals.items c.args.globals.now in
    let ds = g.G.Globals.metas c.args.globals.now in
    let d = c.in-Some-meta.decl.now in
    let q : c.as_slice-in-Some-meta.result.now ≡ d.ctx = search rules in
    ap (λ l. Some (context_of m l, m d.ty)) q ∙ meta_signature m is ds c.in-Meta.m (terms_of (map m c.in-Meta.field-1.now)) (m c.args.h) (Some d) c.in-Some-meta.ensures c.in-Meta.ensures.tree

pub returns-in-Some-meta-clause-held : goal.returns-in-Some-meta-clause-held
returns-in-Some-meta-clause-held g c =
    let h = g.T.Terms.holds c.args.terms.now in
    let d = c.in-Some-meta.decl.now in
    let q : c.as_slice-in-Some-meta.result.now ≡ d.ctx = search rules in
    let held = decl_found_held h (g.G.Globals.metas c.args.globals.now) c.in-Meta.m d c.requires.globals.metas_held (sym c.in-Some-meta.ensures) in
    (transport (AreLocals h) (sym q) held.ctx, held.ty)

pub returns-in-None-meta-clause-signature : goal.returns-in-None-meta-clause-signature
returns-in-None-meta-clause-signature g c =
    let m = g.T.Terms.means c.args.terms.now in
    meta_signature m (g.G.Globals.items c.args.globals.now) (g.G.Globals.metas c.args.globals.now) c.in-Meta.m (terms_of (map m c.in-Meta.field-1.now)) (m c.args.h) None c.in-None-meta.ensures c.in-Meta.ensures.tree
