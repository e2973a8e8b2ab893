-- No second answer: any two results that both meet what a public function of this crate promises are equal, and so are the tables that two runs leave. `Post`
-- is the promise itself, as the contract in the source states it. Of the two loads and the call that are lent the tables it is the clause in
-- the program logic: from it for two answers follows that they are equal.
use mathlib.Core.Path.{◌≡◌, sym, ◌∙◌}
use mathlib.Core.List.{List, [], ◌∷◌}
use Prim.Native.Nat.{ℕ}
use seplogic.Ra.Ura.{Ura}
use base.Logic.{SProp, ent, sep}
use contract.Lifetimes.{Lfts}
use contract.Monad.{Fun, fact}
use denote.RattleType.{RattleType}
use denote.Param.Laws.{Laws, IsCopy}
use denote.Triple.Clauses.{Clauses, AtExit}
use denote.Triple.Entry.{Args}
use types.Logic.{Logic}
use prog.Memory.{Memory}
use prog.Routine.{Routine}
use Rattle.calls.specs.declared.Answer.{Answer}
use Rattle.calls.proofs.Unique.{one_answer}
use Rattle.pools.specs.declared.Rule.TheVariants.{LowestStart}
use Rattle.tables.specs.declared.Tables.{Tables}
use Rattle.meaning.proofs.Once.{stepped-once}
use Rattle.words.proofs.Once.{OneAnswer, facts-once}
use Rattle.executive.specs.contracts.khilzurgee_advance as advance
use Rattle.executive.proofs.khilzurgee_block_check.Reads as block-check
use Rattle.executive.proofs.khilzurgee_image_check.Reads as check
use Rattle.executive.specs.contracts.khilzurgee_load as lent-load
use Rattle.executive.specs.contracts.khilzurgee_load_lowest as lent-lowest
use Rattle.executive.proofs.load.Reads as load
use Rattle.executive.proofs.line.Reads as line
use Rattle.executive.proofs.step.Reads as step

pub load-only : OneAnswer load.Post
load-only κs given r s end end' p q = stepped-once r s (p ∙ sym q)

-- of the old program: the same at its rule
pub load-lowest-only : (κs : _) (image : _) (r s : _) (end end' : _) → load.Post κs (LowestStart, (image, tt)) r end → load.Post κs (LowestStart, (image, tt)) s end' → r ≡ s
load-lowest-only κs image r s end end' p q = load-only κs (LowestStart, (image, tt)) r s end end' p q

pub step-only : OneAnswer step.Post
step-only κs given r s end end' p q = stepped-once r s (p ∙ sym q)

-- whatever refuses: a refusal, or any number
pub line-only : (N : RattleType) (laws : Laws N) (copy : IsCopy N) (by : _) (dict : _) (clone : _) (cloned : _)
    → OneAnswer (line.Post N laws copy by dict clone cloned)
line-only N laws copy by dict clone cloned κs given r s end end' p q = one_answer r s _ p q

pub check-only : OneAnswer check.Post
check-only κs given r s end end' p q = p ∙ sym q

pub block-check-only : OneAnswer block-check.Post
block-check-only κs given r s end end' p q = p ∙ sym q

-- an answer and tables that are both fixed
module _ {M : Type 1} (𝓤 : Ura M) (ns : List ℕ) (u : Tables) where
  abbrev Fixed : Answer → Tables → SProp 𝓤
  Fixed r t = fact 𝓤 ((r.refusal ∷ r.result ∷ r.running ∷ [] ≡ ns) × (t ≡ u))

  pub one-of-both : (r s : Answer) (t t' : Tables) → ent 𝓤 (sep 𝓤 (Fixed r t) (Fixed s t')) (fact 𝓤 ((r ≡ s) × (t ≡ t')))
  one-of-both r s t t' = facts-once 𝓤 (λ p q. (one_answer r s ns p.0 q.0, p.1 ∙ sym q.1))

-- what these promise fixes both; of the parameters at exit, `.0` is the tables that were lent
module _ {M : Type 1} {𝓤 : Ura M} (𝓛 : Logic 𝓤) (mem : Memory → SProp 𝓤) (run : Routine → Fun 𝓤) where
  abbrev OneLeft : Clauses 𝓤 advance.ended → Type 1
  OneLeft c = (κs : Lfts 2) (given : Args advance.signature κs) (g : (c κs given).ghost) (r s : Answer) (end end' : AtExit advance.ended κs)
      → ent 𝓤 (sep 𝓤 ((c κs given).ensures g r end) ((c κs given).ensures g s end')) (fact 𝓤 ((r ≡ s) × (end.0.now ≡ end'.0.now)))

  pub lent-load-only : OneLeft (lent-load.clauses 𝓛 mem run)
  lent-load-only κs given g r s end end' = one-of-both 𝓤 _ _ r s end.0.now end'.0.now

  pub lent-lowest-only : OneLeft (lent-lowest.clauses 𝓛 mem run)
  lent-lowest-only κs given g r s end end' = one-of-both 𝓤 _ _ r s end.0.now end'.0.now

  pub advance-only : OneLeft (advance.clauses 𝓛 mem run)
  advance-only κs given g r s end end' = one-of-both 𝓤 _ _ r s end.0.now end'.0.now
