use Rattle.cspf_publish.proofs.Steps.{admits}
use Rattle.cspf_publish.proofs.replicas.new_reader.Goals as goal

pub reader-requires : goal.reader-requires
reader-requires c = admits
