-- `conversion::steps::move_record` meets its contract. Assumes nothing.
use Rattle.conversion.proofs.steps.move_record.Goals as goal

pub returns-in-One : goal.returns-in-One
returns-in-One c = rw c.in-One.is c.to_version_1.ensures

pub returns-in-Two : goal.returns-in-Two
returns-in-Two c = rw c.in-Two.is c.to_version_2.ensures
