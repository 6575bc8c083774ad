-- How many components of each kind the network of a process with one wait has.
use Rattle.std.specs.Prelude.{ℕ, ◌+◌, Bool, false, not, ◌&&◌}
pub use Rattle.basic_kinds.specs.Sorts.{Sort, Wires, Iwires, Sources, Sinks, Forks, Joins, Merges, Toggles, Waits, Sequencers, is_of, how_many, how_many_below}
use Rattle.net_core.specs.declared.spec.NodeSpec.{NodeSpec}
use Rattle.net_core.specs.declared.spec.NodeSpec.TheVariants.{Kind as Basic, Cmd}
use Rattle.plain_split.specs.OneWait.{Links, many, is_some, is_direct}

abbrev pub is_component : Sort → NodeSpec → Bool
is_component s (Basic k) = is_of s k
is_component s (Cmd c) = false

-- A C for each burst of two and more symbols; a MERGE for each act with two and more entries, and for
-- each symbol of two and more acts; a FORK for each
-- act with two and more outputs; an IWIRE or a SOURCE where the process begins with an act, with and
-- without entries; and a WIRE for each direct path.
abbrev pub one_wait_sum : Links → Sort → ℕ
one_wait_sum g Wires = how_many_below g.names (λ a. is_direct g (g.givers a))
one_wait_sum g Iwires = how_many_below g.acts (λ n. g.begins n && is_some (g.entries n))
one_wait_sum g Sources = how_many_below g.acts (λ n. g.begins n && not (is_some (g.entries n)))
one_wait_sum g Sinks = 0
one_wait_sum g Forks = how_many_below g.acts (λ n. many (g.outs n))
one_wait_sum g Joins = how_many_below g.bursts (λ b. many (g.symbols b))
one_wait_sum g Merges = how_many_below g.acts (λ n. many (g.entries n)) + how_many_below g.names (λ a. many (g.givers a))
one_wait_sum g Toggles = 0
one_wait_sum g Waits = 0
one_wait_sum g Sequencers = 0
