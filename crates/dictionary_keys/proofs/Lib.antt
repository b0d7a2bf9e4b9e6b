mod Moved
