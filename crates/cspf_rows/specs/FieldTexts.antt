-- Private: the laws of field texts, which the proofs about reading rows use.
use Rattle.cspf_addr.specs.Numbers.{AreSpelledOnce}
use Rattle.cspf_addr.specs.AddressText.{AreAddressesSpelledOnce}
use Rattle.cspf_addr.specs.MaskText.{AreMasksRead}
use Rattle.cspf_model.specs.Fields.{AreFieldsOfLinks}
use Rattle.cspf_ero.specs.Laws.{AreObjectsRead}

-- A number, an address or a mask is read from exactly the texts that spell it. Hops are read from
-- exactly the EXPLICIT_ROUTE objects that spell these hops. A link has exactly the attributes that
-- were read.
pub record AreTextsRead : Type 0 where
  pub numbers : AreSpelledOnce
  pub addresses : AreAddressesSpelledOnce
  pub masks : AreMasksRead
  pub objects : AreObjectsRead
  pub links : AreFieldsOfLinks
