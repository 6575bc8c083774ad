-- What the web of rounds is proved from: the acts by numbers, and how far a trace of the environment has come.
use Rattle.std.specs.Prelude.{◌≡◌, ℕ, suc, ◌+◌, ◌-◌, ◌<◌, ◌≤◌, Bool, true, false, List, [], ◌∷◌, ◌++◌}
use Rattle.basic_kinds.specs.Totals.{total}
use Rattle.plain_split.specs.RoundsNet.{Path, depth, share}

-- The burst, which outputs each of the acts gives, and what is known of the environment's traces. An act that begins the process is opened once without a burst.
pub record Plan : Type 1 where
  pub acts : ℕ
  pub levels : ℕ
  pub takes : ℕ → Bool
  pub gives : ℕ → ℕ → Bool
  pub out : ℕ → Bool
  -- 1 for the act that begins the process, 0 for the others
  pub opened : ℕ → ℕ
  -- the act that a last place of the tree leads to, and the place that leads to an act
  pub act_at : Path → ℕ
  pub entry : ℕ → Path
  pub traces : List ℕ → Type 0

abbrev pub when : Bool → ℕ → ℕ
when true n = n
when false n = 0

module _ (g : Plan) where
  -- over the acts that give a
  abbrev pub sum_over : ℕ → (ℕ → ℕ) → ℕ
  sum_over a f = total g.acts (λ y. when (g.gives y a) (f y))

  -- How many bursts are complete, how many of them are answered, which symbols of the next one came, and how often each act has shown each output.
  pub record Story : Type 0 where
    pub bursts : ℕ
    pub answered : ℕ
    pub came : ℕ → ℕ
    pub shown : ℕ → ℕ → ℕ
    pub left : ℕ
    pub near : answered ≤ bursts
    pub next : bursts ≤ suc answered
    pub few : (a : ℕ) → g.takes a ≡ true → came a ≤ 1
    pub still : (a : ℕ) → g.takes a ≡ true → 0 < came a → answered ≡ bursts
    pub left_takes : g.takes left ≡ true
    pub left_none : came left ≡ 0
    pub least : (y a : ℕ) → y < g.acts → g.gives y a ≡ true → share (g.entry y) answered ≤ shown y a - g.opened y
    pub most : (y a : ℕ) → y < g.acts → g.gives y a ≡ true → shown y a ≤ g.opened y + share (g.entry y) bursts
    pub ahead : (y a : ℕ) → y < g.acts → g.gives y a ≡ true → g.opened y + share (g.entry y) bursts ≤ suc (shown y a)
    pub one_ahead : (a : ℕ) → sum_over a (λ y. g.opened y + share (g.entry y) bursts) ≤ suc (sum_over a (λ y. shown y a))

  -- how often an act may have shown its outputs
  abbrev pub allowed : Story → ℕ → ℕ
  allowed s y = g.opened y + share (g.entry y) s.bursts

  -- an input comes
  pub record Took (s : Story) (a : ℕ) (v : Story) : Type 0 where
    pub takes : g.takes a ≡ true
    pub rests : s.answered ≡ s.bursts
    pub new : s.came a ≡ 0
    pub more : v.bursts + v.came a ≡ suc (s.bursts + s.came a)
    pub others : (b : ℕ) → g.takes b ≡ true → (b ≡ a → ⊥) → v.bursts + v.came b ≡ s.bursts + s.came b
    pub same : (y b : ℕ) → y < g.acts → g.gives y b ≡ true → v.shown y b ≡ s.shown y b

  -- an output is shown
  pub record Gave (s : Story) (a : ℕ) (v : Story) : Type 0 where
    pub act : ℕ
    pub low : act < g.acts
    pub gives : g.gives act a ≡ true
    pub before : s.shown act a < allowed s act
    pub more : v.shown act a ≡ suc (s.shown act a)
    pub others : (y b : ℕ) → y < g.acts → g.gives y b ≡ true → ((y ≡ act) × (b ≡ a) → ⊥) → v.shown y b ≡ s.shown y b
    pub same : (b : ℕ) → g.takes b ≡ true → v.bursts + v.came b ≡ s.bursts + s.came b

  -- the stories of traces
  pub record Stories (Tell : List ℕ → Type 0) : Type 0 where
    pub story : (u : List ℕ) → Tell u → Story
    pub first : Tell []
    pub first_bursts : (story [] first).bursts ≡ 0
    pub first_came : (a : ℕ) → (story [] first).came a ≡ 0
    pub first_shown : (y a : ℕ) → (story [] first).shown y a ≡ 0
    pub took : (u : List ℕ) (a : ℕ) (w : Tell u) → g.out a ≡ false → g.traces (u ++ a ∷ []) → (v : Tell (u ++ a ∷ [])) × Took (story u w) a (story (u ++ a ∷ []) v)
    pub gave : (u : List ℕ) (a : ℕ) (w : Tell u) → g.out a ≡ true → g.traces (u ++ a ∷ []) → (v : Tell (u ++ a ∷ [])) × Gave (story u w) a (story (u ++ a ∷ []) v)
    pub shows : (u : List ℕ) (a : ℕ) (w : Tell u) → sum_over a (λ y. (story u w).shown y a) < sum_over a (allowed (story u w)) → g.traces (u ++ a ∷ [])

  pub record Sane : Type 0 where
    pub ins : (a : ℕ) → g.takes a ≡ true → g.out a ≡ false
    pub outs : (y a : ℕ) → y < g.acts → g.gives y a ≡ true → g.out a ≡ true
    pub some : (y : ℕ) → y < g.acts → (a : ℕ) × (g.gives y a ≡ true)
    pub act_low : (p : Path) → depth p ≡ g.levels → g.act_at p < g.acts
    pub entry_back : (p : Path) → depth p ≡ g.levels → g.entry (g.act_at p) ≡ p
    pub act_back : (y : ℕ) → y < g.acts → g.act_at (g.entry y) ≡ y
    pub entry_deep : (y : ℕ) → y < g.acts → depth (g.entry y) ≡ g.levels
