-- The items of the code as those of the definitions, and what a step of hashing adds. This project's own.
use Rattle.std.specs.Prelude.{ℕ, List, ◌++◌}
use Rattle.sha2.specs.Hashers.{Holds256}
use Rattle.sha2.specs.declared.Sha256.{Sha256}
use Rattle.mon_model.specs.Measure as chain
use Rattle.mon_measure.specs.declared.item.Item.{Item}
use Rattle.mon_measure.specs.declared.item.Item.TheVariants as items

-- the item of the chain that an item of the code stands for
abbrev pub item_of : Item → chain.Item
item_of (items.Create base size) = chain.Create base size
item_of (items.Table va level) = chain.Table va level
item_of (items.Page va perms digest) = chain.Page va perms digest
item_of (items.Thread entry sp) = chain.Thread entry sp
item_of items.Init = chain.Init

-- a hasher that held some message now holds these bytes behind it
abbrev pub Adds : Sha256 → Sha256 → List ℕ → Type 0
Adds before after bytes = (m : List ℕ) → Holds256 before m → Holds256 after (m ++ bytes)
