use Rattle.std.proofs.Common.{rules, ◌∙◌}
use Rattle.std.proofs.lemmas.Iterator.Search.{all_from_yields_List}
use Rattle.moving.specs.rules.Moving.{is_bare, all_bare}
use Rattle.moving.proofs.CodeLaws.{over, over-tape}
use Rattle.moving.proofs.Whole.all_bare.Goals as goal

pub returns : goal.returns
unfolding all_bare
returns c =
    let t = c.args.self in
    let it = c.chunks_exact.ensures in
    all_from_yields_List is_bare _ _ c.all.result c.all.ensures.ran
    (over (over-tape t.bytes.now t.trailer t.adds_up (it.size ∙ c.event_bytes.ensures.0) (it.rest ∙ c.records.ensures)))
    (λ x b q k. search rules)
