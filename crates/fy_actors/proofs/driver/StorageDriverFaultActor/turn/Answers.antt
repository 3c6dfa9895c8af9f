use Rattle.fy_actors.proofs.Playing.{drives_plays}
use Rattle.fy_actors.proofs.driver.StorageDriverFaultActor.turn.Goals as goal

pub returns-clause-plays : goal.returns-clause-plays
returns-clause-plays c =
    drives_plays (c.args.self.now, c.args.desk.now) (c.drive.new.self, c.drive.new.desk)
    c.drive.result c.drive.ensures.turn
