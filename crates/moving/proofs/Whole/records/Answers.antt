use Rattle.moving.proofs.CodeLaws.{records-lie}
use Rattle.moving.proofs.Whole.records.Goals as goal

pub returns : goal.returns
returns c = records-lie c.args.self.bytes.now c.args.self.trailer c.args.self.adds_up
