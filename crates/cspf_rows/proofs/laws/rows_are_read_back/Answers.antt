use Rattle.cspf_rows.proofs.ReadBack.{puts_read_back, drops_read_back, nodes_read_back, ends_read_back, asks_read_back}
use Rattle.cspf_rows.proofs.laws.rows_are_read_back.Goals as goal

pub returns : goal.returns
returns c =
    let texts = c.texts_are_read.ensures in
    record {
      puts = puts_read_back texts;
      drops = drops_read_back texts;
      nodes = nodes_read_back texts;
      ends = ends_read_back texts;
      asks = asks_read_back texts c.hop_lists_are_read_back.ensures;
    }
