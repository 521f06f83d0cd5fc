use Rattle.cspf_db.proofs.Tables.Shapes.{shapes_tell}
use Rattle.cspf_db.proofs.table.shape.shapes_tell_routers.Goals as goal

pub returns : goal.returns
returns c = shapes_tell
