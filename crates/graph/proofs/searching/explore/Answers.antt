-- `graph::searching::explore` meets its contract.
use Rattle.graph.proofs.Search.ScanSteps.{visiting_starts, visited_explored}
use Rattle.graph.proofs.searching.explore.Goals as goal

pub visit-requires : goal.visit-requires
visit-requires c = visiting_starts _ _ _ c.count_held-count.ensures

pub returns : goal.returns
returns c = record { value = (visited_explored _ _ _ _ _ _ c.visit.ensures).0; index_after = (visited_explored _ _ _ _ _ _ c.visit.ensures).1 }
