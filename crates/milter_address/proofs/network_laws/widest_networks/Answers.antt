use Rattle.milter_address.proofs.Memberships.{own_network, all_of_ipv4, all_of_ipv6}
use Rattle.milter_address.proofs.network_laws.widest_networks.Goals as goal

pub returns-clause-own : goal.returns-clause-own
returns-clause-own c = own_network

pub returns-clause-ipv4 : goal.returns-clause-ipv4
returns-clause-ipv4 c = all_of_ipv4

pub returns-clause-ipv6 : goal.returns-clause-ipv6
returns-clause-ipv6 c = all_of_ipv6
