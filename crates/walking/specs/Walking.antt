-- Walks one after the other on the tables, operation by operation, and what they ask. Assumes nothing.
use Rattle.std.specs.Prelude.{ℕ, zero, suc, ◌+◌, ◌*◌, ◌<◌, Bool, true, false, cond, List}
use Rattle.written.specs.declared.Order.{Order}
use Rattle.machine.specs.Moving.{Fixed}
use Rattle.walking_steps.specs.Stepping.{Stand, is_found_in, walk_in}
use Rattle.walking_steps.specs.Following.{CanBegin}

-- how the walks end: walks begun, and where they stand
pub record End : Type 0 where
  pub found : Bool
  pub walks : ℕ
  pub last : Stand

abbrev pub end : Bool → ℕ → Stand → End
end b n v = record { found = b; walks = n; last = v }

-- 2: "next walk from 1, or give up if it was the last": over T terms and C clauses under the marks ms, n walks are over, k are left
unfoldable pub walks_in : Order → List ℕ → ℕ → ℕ → Fixed → ℕ → ℕ → Stand → End
walks_in o ms T C x zero n v = end false n v
walks_in o ms T C x (suc k) n v =
    let w : Stand = walk_in o ms T C x v in
    cond (is_found_in w) (end true (suc n) w) (walks_in o ms T C x k (suc n) w)

-- what k walks ask: that one can begin, and that the flips of all are counted below most
pub record CanWalks (top most T C k : ℕ) (o : Order) (ms : List ℕ) (x : Fixed) (v : Stand) : Type 0 where
  pub begin : CanBegin top T C ms x v
  pub few : v.flips + k * o.flips < most
