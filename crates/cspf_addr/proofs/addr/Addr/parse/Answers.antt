use Rattle.cspf_addr.proofs.Readers.{ok_or_read}
use Rattle.cspf_addr.proofs.AddressLemmas.{address_ok, address_err, address_only}
use Rattle.cspf_addr.proofs.addr.Addr.parse.Goals as goal

pub returns : goal.returns
returns c =
    let read = ok_or_read _ c.ok_or.ensures.value c.read_address.ensures in
    record { value = read; ok = address_ok _ _ read; err = address_err _ _ read; only = address_only _ _ read }
