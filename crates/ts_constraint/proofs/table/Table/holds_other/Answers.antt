use Rattle.std.proofs.Common.{◌≡◌, ap, sym, refl, ◌∙◌}
use Rattle.ts_name.specs.General.{dNSName, directoryName, iPAddress}
use Rattle.ts_name.specs.GeneralView.{general_in}
use Rattle.ts_name.specs.NameView.{rdns_in}
use Rattle.ts_constraint.specs.Names.{form_of, is_processed_form}
use Rattle.ts_constraint.specs.View.{bases_in}
use Rattle.ts_constraint.proofs.Tables.{held, never}
use Rattle.ts_constraint.proofs.table.Table.holds_other.Goals as goal

pub returns-in-DnsName : goal.returns-in-DnsName
returns-in-DnsName c =
    held (general_in c.args.name) (dNSName c.in-DnsName.host.now)
    (bases_in c.self.inside.subtrees.items) c.args.self.now c.has.result _ c.has.ensures
    (ap general_in (sym c.in-DnsName.is)) c.self.view_is
    (c.self.invariant.hosts_are c.in-DnsName.host.now)

pub returns-in-DirectoryName : goal.returns-in-DirectoryName
returns-in-DirectoryName c =
    held (general_in c.args.name) (directoryName (rdns_in c.in-DirectoryName.name))
    (bases_in c.self.inside.subtrees.items) c.args.self.now c.has_one_by_one.result _
    c.has_one_by_one.ensures (ap general_in (sym c.in-DirectoryName.is)) c.self.view_is
    (c.self.invariant.directories_are (rdns_in c.in-DirectoryName.name))

pub returns-in-IpAddress : goal.returns-in-IpAddress
returns-in-IpAddress c =
    held (general_in c.args.name) (iPAddress c.in-IpAddress.address.now)
    (bases_in c.self.inside.subtrees.items) c.args.self.now c.has-in-IpAddress.result
    c.has-in-IpAddress.result refl (ap general_in (sym c.in-IpAddress.is)) c.self.view_is
    (c.has-in-IpAddress.ensures (bases_in c.self.inside.subtrees.items) c.self.invariant.ranges_are)

pub returns-in-OtherName : goal.returns-in-OtherName
returns-in-OtherName c = never (general_in c.args.name) c.args.self.now (ap (λ n. is_processed_form (form_of (general_in n))) c.in-OtherName.is)

pub returns-in-Rfc822Name : goal.returns-in-Rfc822Name
returns-in-Rfc822Name c = never (general_in c.args.name) c.args.self.now (ap (λ n. is_processed_form (form_of (general_in n))) c.in-Rfc822Name.is)

pub returns-in-X400Address : goal.returns-in-X400Address
returns-in-X400Address c = never (general_in c.args.name) c.args.self.now (ap (λ n. is_processed_form (form_of (general_in n))) c.in-X400Address.is)

pub returns-in-EdiPartyName : goal.returns-in-EdiPartyName
returns-in-EdiPartyName c = never (general_in c.args.name) c.args.self.now (ap (λ n. is_processed_form (form_of (general_in n))) c.in-EdiPartyName.is)

pub returns-in-UniformResourceIdentifier : goal.returns-in-UniformResourceIdentifier
returns-in-UniformResourceIdentifier c = never (general_in c.args.name) c.args.self.now (ap (λ n. is_processed_form (form_of (general_in n))) c.in-UniformResourceIdentifier.is)

pub returns-in-RegisteredId : goal.returns-in-RegisteredId
returns-in-RegisteredId c = never (general_in c.args.name) c.args.self.now (ap (λ n. is_processed_form (form_of (general_in n))) c.in-RegisteredId.is)
