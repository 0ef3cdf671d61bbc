-- What `==` says of clients, of addresses and of users: when two senders are the same to a register, and when two users are.
use Rattle.std.specs.Prelude.{◌≡◌, ◌==◌, refl}
use denote.Param.{number}
use Rattle.register.specs.declared.keys.Client.{Client}
use Rattle.register.specs.declared.keys.Capitals.{Capitals}
use Rattle.register.specs.contracts.keys.ClientPartialEq.TheImpl as clients
use Rattle.register.specs.contracts.keys.CapitalsPartialEq.TheImpl as capitals
use Rattle.register.specs.declared.user.User.{User}
use Rattle.register.specs.contracts.user.UserPartialEq.TheImpl as users
use Rattle.register.specs.Keys.{is_client, is_address}
use Rattle.register.specs.Users.{number_of}

pub clients_same : (a b : Client) → (clients.ghosts).eq a b ≡ is_client a b
clients_same a b = refl

pub addresses_same : (a b : Capitals 7) → (capitals.ghosts (number 7)).eq a b ≡ is_address a b
addresses_same a b = refl

pub users_same : (a b : User) → users.ghosts.eq a b ≡ (number_of a == number_of b)
users_same a b = refl
