mod Loadable
mod Made
