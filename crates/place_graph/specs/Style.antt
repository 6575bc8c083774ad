-- In which style the network of a process is built.
use Rattle.std.specs.Prelude.{ℕ, Bool, false, ◌&&◌, nat_eq, if◌then◌else◌, List, length, count_by, Option, Some, None}
use Rattle.std.specs.List.{list_any, list_all, range_with_len}
use Rattle.std.specs.Int.{is_power_of_two}
use Rattle.place_graph.specs.declared.wait_graph.WaitGraph.{WaitGraph}
use Rattle.place_graph.specs.declared.wait_graph.Cross.{Cross}
use Rattle.place_graph.specs.declared.wait_graph.Act.{Act}
use Rattle.place_graph.specs.declared.wait_graph.Start.{Start}
use Rattle.place_graph.specs.declared.wait_graph.Start.TheVariants as start
use Rattle.place_graph.specs.declared.styles.SplitStyle.{SplitStyle}
use Rattle.place_graph.specs.declared.styles.SplitStyle.TheVariants.{OneWait, Rounds, Token}

-- how many crossings lead to the act
abbrev pub entries : ℕ → List Cross → ℕ
entries a cs = count_by (λ c. nat_eq c.act a) cs

-- whether the exit is the wait
abbrev pub is_exit : ℕ → Option ℕ → Bool
is_exit w None = false
is_exit w (Some x) = nat_eq x w

-- whether some act leads to the wait, or some crossing to the act
abbrev pub has_entry : Start → List Act → List Cross → Bool
has_entry (start.Wait w) ys cs = list_any (λ y. is_exit w y.exit) ys
has_entry (start.Act a) ys cs = list_any (λ c. nat_eq c.act a) cs

-- whether each of the first n acts has one entry
abbrev pub one_entry_each : ℕ → List Cross → Bool
one_entry_each n cs = list_all (λ a. nat_eq (entries a cs) 1) (range_with_len 0 n)

-- one burst is taken at each of the waits in turn, and these are a power of two
abbrev pub in_rounds : WaitGraph → Bool
in_rounds g = nat_eq (length g.bursts) 1 && is_power_of_two g.waits && nat_eq (length g.crosses) g.waits
    && one_entry_each (length g.acts) g.crosses && has_entry g.start g.acts g.crosses

abbrev pub style_of : WaitGraph → SplitStyle
style_of g = if nat_eq g.waits 1 then OneWait else (if in_rounds g then Rounds g.waits else Token)
