-- `patterns::draft::Draft::put_rule` meets its contract.
use Rattle.std.proofs.Common.{◌≡◌, List, ℕ, refl, sym, ap, ◌∙◌, arith}
use Rattle.patterns.specs.Internal.Nodes.{Progressed}
use Rattle.patterns.specs.declared.draft.Draft.{Draft}
use Rattle.patterns.proofs.Steps.Copying.{node_movable}
use Rattle.patterns.proofs.Steps.Copies.{copy_start, copy_more, copy_nodes_exceeded, copy_binders_exceeded, copy_done}
use Rattle.patterns.proofs.draft.Draft.put_rule.Goals as goal
use Rattle.patterns.proofs.draft.Draft.put_rule.Goals.{then-self-count-via-then-self-count, then-self-count-via-else-self-count+then-self-bound}

pub returns-then-self-count-clause-made : goal.returns-then-self-count-clause-made
returns-then-self-count-clause-made c =
    Progressed.exceeded (elim c.then-self-count.branch [
      | then-self-count-via-then-self-count w ↦ copy_nodes_exceeded c.requires (omega (arith, c.node_count-count.ensures, w.if-self-count.true))
      | then-self-count-via-else-self-count+then-self-bound w ↦
          copy_binders_exceeded c.requires (omega (arith, c.binder_count-bound.ensures, w.if-self-bound.true))
    ])

pub loop-i-init : goal.loop-i-init
loop-i-init c = record { copying = copy_start _ _ _ _; same = refl }

pub moved-node-requires : goal.moved-node-requires
moved-node-requires c =
    let same = c.loop-i.invariant.same in
    let n = ap (λ (d : Draft). d.nodes) same in
    let b = ap (λ (d : Draft). d.binders) same in
    rw (c.node.ensures)
    (node_movable c.requires.kept c.requires.few_entries _ (omega (arith, c.node_count-count.ensures)) (omega (arith, n, c.requires.few_nodes))
    (omega (arith, b, c.requires.few_binders)))

-- another body, and nothing else
body_alone : (a d new : Draft) (body : List ℕ) → new ≡ record d { body = body } → d ≡ record a { body = d.body } → new ≡ record a { body = new.body }
body_alone a d new body e s =
    e ∙ ap (λ (x : Draft). record x { body = body }) s ∙ ap (λ (o : List ℕ). record a { body = o }) (sym (ap (λ (x : Draft). x.body) e))

pub loop-i-preserved : goal.loop-i-preserved
loop-i-preserved c =
    let a = c.args.self.now in
    let same = c.loop-i.invariant.same in
    let n = ap (λ (d : Draft). d.nodes) same in
    let b = ap (λ (d : Draft). d.binders) same in
    let body = ap (λ (d : Draft). d.body) c.put_node.ensures in record {
      copying =
          copy_more c.loop-i.invariant.copying (omega (arith, c.node_count-count.ensures)) (omega (arith, c.node_count-count.ensures, c.requires.few_nodes))
          c.requires.room c.node.ensures (rw (n, b) at c.moved-node.ensures) (rw n at body);
      same = body_alone a c.loop-i.self c.put_node.new.self _ c.put_node.ensures same;
    }

pub returns-clause-made : goal.returns-clause-made
returns-clause-made c =
    let same = c.loop-i.invariant.same in
    let n = ap (λ (d : Draft). d.nodes) same in
    let b = ap (λ (d : Draft). d.binders) same in
    rw (n, b)
    (Progressed.followed
    (copy_done c.requires c.loop-i.invariant.copying c.node_count-count.ensures c.binder_count-bound.ensures (omega arith) (omega arith) (omega arith)))
