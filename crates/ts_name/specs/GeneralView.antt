-- What contracts see of a general name that is borrowed.
use Rattle.ts_name.specs.declared.general.General.{General}
use Rattle.ts_name.specs.declared.general.General.TheVariants.{OtherName, Rfc822Name, DnsName}
use Rattle.ts_name.specs.declared.general.General.TheVariants.{X400Address, DirectoryName}
use Rattle.ts_name.specs.declared.general.General.TheVariants.{EdiPartyName}
use Rattle.ts_name.specs.declared.general.General.TheVariants.{UniformResourceIdentifier, IpAddress}
use Rattle.ts_name.specs.declared.general.General.TheVariants.{RegisteredId}
use Rattle.ts_name.specs.General.{GeneralName, otherName, rfc822Name, dNSName, x400Address}
use Rattle.ts_name.specs.General.{directoryName, ediPartyName, uniformResourceIdentifier, iPAddress}
use Rattle.ts_name.specs.General.{registeredID}
use Rattle.ts_name.specs.NameView.{rdns_in}

-- its form and its octets, without where they lie in memory
abbrev pub general_in : General → GeneralName
general_in (OtherName octets) = otherName octets.now
general_in (Rfc822Name text) = rfc822Name text.now
general_in (DnsName text) = dNSName text.now
general_in (X400Address octets) = x400Address octets.now
general_in (DirectoryName name) = directoryName (rdns_in name)
general_in (EdiPartyName octets) = ediPartyName octets.now
general_in (UniformResourceIdentifier text) = uniformResourceIdentifier text.now
general_in (IpAddress octets) = iPAddress octets.now
general_in (RegisteredId oid) = registeredID oid.content.now
