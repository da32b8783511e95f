-- `unmapping::on_calendar` meets its contract. Assumes nothing.
use borrow.Author.Rules.{rules}
use Rattle.unmapping.proofs.DateTimes.{asked_of}
use Rattle.unmapping.proofs.on_calendar.Goals as goal

pub returns-in_err-ask : goal.returns-in_err-ask
returns-in_err-ask c = rw (← asked_of c.args.day c.args.nano c.requires) (search rules)

pub returns : goal.returns
returns c = rw (← asked_of c.args.day c.args.nano c.requires) (search rules)
