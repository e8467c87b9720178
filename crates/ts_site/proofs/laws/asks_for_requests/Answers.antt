-- The law, by what each call keeps.
use Rattle.ts_site.proofs.ForRequests.{for_its_request}
use Rattle.ts_site.proofs.laws.asks_for_requests.Goals as goal

pub returns : goal.returns
returns c = for_its_request
